-- The order of finishing: a node that is finished keeps post-order (post_step), and what post-order gives Kosaraju (late). Assumes nothing.
use Rattle.std.proofs.Common.{◌≡◌, ℕ, ◌⊎◌, List, [], ◌∷◌, sym, refl, subst, inl, inr, ⊎_elim}
use native.Mathlib.Decide.{ℕ_discrete}
use Rattle.theory.specs.Edges.{In}
use Rattle.theory.specs.PostOrder.{Post}
use Rattle.theory.specs.Reach.{Leads, Reach, Same, here, more}
use Rattle.theory.proofs.Reaching.{in_cast, reach_trans}
use Rattle.theory.proofs.PostWalking.{Lay, Told, Top, Walk, chain}

module _ (out : ℕ → List ℕ) where
  Later : ℕ → List ℕ → Type 0
  Later x f = (y : ℕ) × (In y f → ⊥) × Same out x y

  -- where v is finished, next to the other nodes finished
  pub post_step : (old d : ℕ → Type 0) → ((x : ℕ) → old x → ⊥) → (v : ℕ) (s f p q : List ℕ) → Walk out old d (v ∷ s) f p → d v → (In v f → ⊥) → Top out old s v p q → Post out f → Post out (v ∷ f)
  unfolding Later
  post_step old d nobody v s f p q w h n t g = (walked, g)
    where
      ends : (c : ℕ) → Told out old d c → (b : ℕ) → In b (out c) → d b
      ends c (inl o) b e = absurd (nobody c o)
      ends c (inr k) b e = k b e

      sort : (b : ℕ) → Reach (Leads out) v b → d b → In b (v ∷ f) ⊎ Later v (v ∷ f)
      sort b r k =
          ⊎_elim
          (λ i. inl (inr i))
          (λ i. ⊎_elim
          (λ e. inl (inl e))
          (λ j. inr (b, ⊎_elim (λ e. t.off (in_cast q e j)) (w.path b i).1, (r, chain out old (v ∷ s) v q (subst (Lay out (v ∷ s)) t.is w.lay) b (inr j))))
          (subst (In b) t.is i))
          (w.grey b k)

      walked : (b : ℕ) → Reach (Leads out) v b → In b (v ∷ f) ⊎ Later v (v ∷ f)
      walked b here = inl (inl refl)
      walked b (more {b = c} r e) = on (walked c r)
        where
          on : In c (v ∷ f) ⊎ Later v (v ∷ f) → In b (v ∷ f) ⊎ Later v (v ∷ f)
          on (inr y) = inr y
          on (inl (inl i)) = sort b (more r e) (ends v (w.cov.0 h) b (subst (λ z. In b (out z)) i e))
          on (inl (inr i)) = sort b (more r e) (ends c (w.told c i) b e)

  -- a finished node that reaches one not in the list has a node of its component not in the list
  pub late : (f : List ℕ) → Post out f → (x : ℕ) → (In x f → ⊥) → (z : ℕ) → In z f → Reach (Leads out) z x → (y : ℕ) × (In y f → ⊥) × Same out z y
  late [] g x n z i r = absurd i
  late (w ∷ f) g x n z (inl e) r = head (g.0 x (subst (λ a. Reach (Leads out) a x) e r))
    where
      head : In x (w ∷ f) ⊎ ((y : ℕ) × (In y (w ∷ f) → ⊥) × Same out w y) → (y : ℕ) × (In y (w ∷ f) → ⊥) × Same out z y
      head (inl i) = absurd (n i)
      head (inr y) = (y.0, y.1, subst (λ a. Same out a y.0) (sym e) y.2)
  late (w ∷ f) g x n z (inr i) r = pick (late f g.1 x (λ j. n (inr j)) z i r)
    where
      again : (y : ℕ) → Same out z y → y ≡ w → In x (w ∷ f) ⊎ ((y : ℕ) × (In y (w ∷ f) → ⊥) × Same out w y) → (y : ℕ) × (In y (w ∷ f) → ⊥) × Same out z y
      again y s e (inl j) = absurd (n j)
      again y s e (inr u) =
          let s' : Same out z w = subst (Same out z) e s in
          (u.0, u.1, (reach_trans s'.0 u.2.0, reach_trans u.2.1 s'.1))

      pick : (y : ℕ) × (In y f → ⊥) × Same out z y → (y : ℕ) × (In y (w ∷ f) → ⊥) × Same out z y
      pick u = choose (ℕ_discrete u.0 w)
        where
          choose : Dec (u.0 ≡ w) → (y : ℕ) × (In y (w ∷ f) → ⊥) × Same out z y
          choose (yes e) = again u.0 u.2 e (g.0 x (reach_trans (subst (λ a. Reach (Leads out) a z) e u.2.1) r))
          choose (no m) = (u.0, ⊎_elim m u.1, u.2)
