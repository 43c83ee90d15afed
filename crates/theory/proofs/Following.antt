-- The edges followed in a direction: their near end is the node they are listed at, their ends and numbers are below the counts, and each is listed once.
-- Assumes nothing.
use Rattle.std.proofs.Common.{◌≡◌, ℕ, ◌<◌, Bool, List, subst}
use Rattle.theory.specs.Edges.{Edge, In, Once}
use Rattle.theory.specs.Graphs.{Sound, Tied}
use Rattle.theory.specs.Listings.{Direction, Forward, Reverse, far, followed, near}
use Rattle.theory.proofs.Grounds.{source_inside}

module _ {W : Type 0} {node : ℕ → Bool} {bound edges : ℕ} {outs ins : ℕ → List (Edge W)} (s : Sound node bound edges outs) (t : Tied outs ins) where
  pub near_at : (d : Direction) (a : ℕ) (e : Edge W) → In e (followed d outs ins a) → near d e ≡ a
  near_at Forward a e i = s.source a e i
  near_at Reverse a e i = t.target a e i

  pub far_below : (d : Direction) (a : ℕ) (e : Edge W) → In e (followed d outs ins a) → far d e < bound
  far_below Forward a e i = s.below e.target (s.target a e i)
  far_below Reverse a e i = source_inside s e.source e (t.out a e i)

  pub near_below : (d : Direction) (a : ℕ) (e : Edge W) → In e (followed d outs ins a) → a < bound
  near_below Forward a e i = s.below a (s.from a e i)
  near_below Reverse a e i = subst (λ z. z < bound) (t.target a e i) (s.below e.target (s.target e.source e (t.out a e i)))

  pub listed_once : (d : Direction) (a : ℕ) → Once (followed d outs ins a)
  listed_once Forward a = s.once a
  listed_once Reverse a = t.once a

  pub one_number : (d : Direction) (a b : ℕ) (e f : Edge W) → In e (followed d outs ins a) → In f (followed d outs ins b) → e.number ≡ f.number → e ≡ f
  one_number Forward a b e f i j same = s.unique a b e f i j same
  one_number Reverse a b e f i j same = s.unique e.source f.source e f (t.out a e i) (t.out b f j) same

  pub number_below : (d : Direction) (a : ℕ) (e : Edge W) → In e (followed d outs ins a) → e.number < edges
  number_below Forward a e i = s.number a e i
  number_below Reverse a e i = s.number e.source e (t.out a e i)
