-- What is pushed for a node, and how the count of turns that are left falls with each node discovered. Assumes nothing.
use Rattle.std.proofs.Common.{◌≡◌, ℕ, suc, ◌+◌, ◌<◌, ◌≤◌, ◌⊎◌, List, [], ◌∷◌, ◌++◌, length, sym, refl, inl, inr, ⊎_elim, arith, length-append}
use Rattle.std.proofs.Math.Logic.{⊎_map, ⊎_swap}
use Rattle.theory.specs.Edges.{In}
use Rattle.theory.specs.PostOrder.{fresh, in?, unless, weight}
use Rattle.theory.proofs.Reaching.{in_cases, in_cast, in_left, in_right}
use Rattle.theory.proofs.PostWalking.{Adds, Pushed}
use Rattle.theory.proofs.Left.{left_less, left_listed, left_unlisted, listed, weight_is}

pub adds : (d : List ℕ) (v : ℕ) → Adds (λ x. In x d) (λ x. In x (v ∷ d)) v
adds d v = record {
  keep = λ x h. inr h;
  new = inl refl;
  only = λ x. ⊎_swap;
}

kept : (x w : ℕ) (d : List ℕ) (c : Dec (In w d)) → In x (unless c w) → (x ≡ w) × (In x d → ⊥)
kept x w d (yes h) i = absurd i
kept x w d (no n) (inl e) = (e, λ h. n (in_cast d e h))
kept x w d (no n) (inr z) = absurd z

fresh_in : (d ws : List ℕ) (x : ℕ) → In x (fresh d ws) → In x ws × (In x d → ⊥)
fresh_in d [] x h = absurd h
fresh_in d (w ∷ ws) x h =
    ⊎_elim
    (λ i. (inr (fresh_in d ws x i).0, (fresh_in d ws x i).1))
    (λ i. (inl (kept x w d (in? w d) i).0, (kept x w d (in? w d) i).1))
    (in_cases x (fresh d ws) (unless (in? w d) w) h)

found : (x w : ℕ) (d : List ℕ) (c : Dec (In w d)) → x ≡ w → In x d ⊎ In x (unless c w)
found x w d (yes h) e = inl (in_cast d (sym e) h)
found x w d (no n) e = inr (inl e)

fresh_all : (d ws : List ℕ) (x : ℕ) → In x ws → In x d ⊎ In x (fresh d ws)
fresh_all d [] x h = absurd h
fresh_all d (w ∷ ws) x (inl e) = ⊎_map (λ i. i) (λ i. in_right x (fresh d ws) (unless (in? w d) w) i) (found x w d (in? w d) e)
fresh_all d (w ∷ ws) x (inr h) = ⊎_map (λ i. i) (λ i. in_left x (fresh d ws) (unless (in? w d) w) i) (fresh_all d ws x h)

pub pushed : (out : ℕ → List ℕ) (d : List ℕ) (v : ℕ) → Pushed out (λ x. In x (v ∷ d)) v (fresh (v ∷ d) (out v))
pushed out d v = record {
  target = λ w i. (fresh_in (v ∷ d) (out v) w i).0;
  white = λ w i. (fresh_in (v ∷ d) (out v) w i).1;
  all = fresh_all (v ∷ d) (out v);
}

unless_length : {A : Type 0} (c : Dec A) (w : ℕ) → length (unless c w) ≤ 1
unless_length (yes h) w = omega arith
unless_length (no n) w = omega arith

-- what a node pushes over a stack is no more than its far ends
pub fresh_length : (d ws s : List ℕ) → length (fresh d ws ++ s) ≤ length ws + length s
fresh_length d ws s = omega (arith, length-append (fresh d ws) s, few ws)
  where
    few : (ws : List ℕ) → length (fresh d ws) ≤ length ws
    few [] = omega arith
    few (w ∷ ws) = omega (arith, length-append (fresh d ws) (unless (in? w d) w), unless_length (in? w d) w, few ws)

module _ {X : Type 0} (out : ℕ → List X) where
  -- the weight falls by a discovered node's share
  pub weight_falls : (n : ℕ) (d : List ℕ) (v : ℕ) → v < n → (In v d → ⊥) → weight out n (v ∷ d) + suc (length (out v)) ≡ weight out n d
  weight_falls n d v b m = omega (arith, weight_is out n (v ∷ d), weight_is out n d, left_listed (λ u. suc (length (out u))) d v n b m)

  -- no more nodes discovered, no less weight
  pub weight_most : (n : ℕ) (d : List ℕ) → weight out n d ≤ weight out n []
  weight_most n d =
      let f : ℕ → ℕ = λ u. suc (length (out u)) in
      omega (arith, weight_is out n d, weight_is out n [], left_less f f (listed d) n (λ _. omega arith), left_unlisted f n)
