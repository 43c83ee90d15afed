-- The walk by the rule that all edges pass, beside the post-order walk over lists of far ends.
-- Alike: a set and a list have the same members.  Agrees: the one walk is where the other is, and has done the same nodes in the same order.
-- EveryIsPostOrder: the law.
-- Assumes nothing.
use Rattle.std.specs.Prelude.{◌≡◌, ℕ, Bool, true, List, map}
use Rattle.theory.specs.Edges.{In}
use Rattle.theory.specs.Rules.{every}
use Rattle.theory.specs.Walk.{Place, run, order}
use Rattle.theory.specs.PostOrder.{State}
use Rattle.theory.specs.PostOrder as post

abbrev pub Alike : (ℕ → Bool) → List ℕ → Type 0
Alike s l = (n : ℕ) → (s n ≡ true → In n l) × (In n l → s n ≡ true)

-- xs are the nodes done on the way to t, the latest first
pub record Agrees {E : Type 0} (t : Place E) (xs : List ℕ) (x : State) : Type 0 where
  pub stack : t.stack ≡ x.stack
  pub seen : Alike t.seen x.disc
  pub done : Alike t.done x.fin
  pub order : xs ≡ x.fin

-- by the rule that all edges pass the walk is the post-order walk, turn for turn
abbrev pub EveryIsPostOrder : Type 0 → Type 0
EveryIsPostOrder E =
    (lst : ℕ → List E) (far : E → ℕ) (k : ℕ) (s : Place E) (d f : List ℕ) → Alike s.seen d → Alike s.done f →
    Agrees (run lst far every k s) (order lst far every k s f) (post.run (λ u. map far (lst u)) k s.stack d f)
