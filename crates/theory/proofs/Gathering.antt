-- The gathering of one component: what holds between its turns, that each turn keeps it, and what it gives at the end. Assumes nothing.
use Rattle.std.proofs.Common.{ℕ, ◌⊎◌, List, [], ◌∷◌, ◌++◌, reverse, sym, refl, subst, inl, inr, ⊎_elim}
use Rattle.std.proofs.Math.Logic.{⊎_map}
use Rattle.theory.specs.Edges.{In, Distinct}
use Rattle.theory.specs.Reach.{Leads, Reach, more}
use Rattle.theory.proofs.Reaching.{in_cases, in_left, in_reverse, in_right, popped, reach_eq, reach_keeps, reverse_distinct, reverse_in}
use Rattle.theory.proofs.PostWalking.{Adds, Pushed}

-- t0 was taken before, x is where it began, g is the group so far
pub record Part (out : ℕ → List ℕ) (t0 t : ℕ → Type 0) (x : ℕ) (s g : List ℕ) : Type 0 where
  pub old : (y : ℕ) → t0 y → t y
  pub new : (y : ℕ) → In y g → t y × (t0 y → ⊥)
  pub only : (y : ℕ) → t y → t0 y ⊎ In y g
  pub reached : (y : ℕ) → In y g → Reach (Leads out) x y
  pub aimed : (y : ℕ) → In y s → Reach (Leads out) x y
  pub shut : (u w : ℕ) → t u → In w (out u) → t w ⊎ In w s
  pub begun : t x ⊎ In x s
  pub once : Distinct g

module _ (out : ℕ → List ℕ) (t0 : ℕ → Type 0) (x : ℕ) where
  pub part_start : ((u w : ℕ) → t0 u → In w (out u) → t0 w) → Part out t0 t0 x (x ∷ []) []
  part_start c = record {
    old = λ y h. h;
    new = λ y h. absurd h;
    only = λ y h. inl h;
    reached = λ y h. absurd h;
    aimed = λ y. ⊎_elim (λ e. reach_eq (sym e)) (λ z. absurd z);
    shut = λ u w h e. inl (c u w h e);
    begun = inr (inl refl);
    once = tt;
  }

  pub part_skip : (t : ℕ → Type 0) (v : ℕ) (s g : List ℕ) → Part out t0 t x (v ∷ s) g → t v → Part out t0 t x s g
  part_skip t v s g p h = record {
    old = p.old;
    new = p.new;
    only = p.only;
    reached = p.reached;
    aimed = λ y i. p.aimed y (inr i);
    shut = λ u w k e. popped t s h (p.shut u w k e);
    begun = popped t s h p.begun;
    once = p.once;
  }

  pub part_take : (t t' : ℕ → Type 0) (v : ℕ) (s g l : List ℕ) → Part out t0 t x (v ∷ s) g → (t v → ⊥) → Adds t t' v → Pushed out t' v l → Part out t0 t' x (l ++ s) (v ∷ g)
  part_take t t' v s g l p n a u =
      let at : Reach (Leads out) x v = p.aimed v (inl refl) in
      record {
        old = λ y h. a.keep y (p.old y h);
        new = λ y. ⊎_elim
            (λ e. (subst t' (sym e) a.new, λ h. n (p.old v (subst t0 e h))))
            (λ i. (a.keep y (p.new y i).0, (p.new y i).1));
        only = λ y h. ⊎_elim (λ k. ⊎_map (λ o. o) (λ i. inr i) (p.only y k)) (λ e. inr (inl e)) (a.only y h);
        reached = λ y. ⊎_elim (λ e. subst (Reach (Leads out) x) (sym e) at) (p.reached y);
        aimed = λ y i. ⊎_elim (λ j. more at (u.target y j)) (λ j. p.aimed y (inr j)) (in_cases y l s i);
        shut = λ b w h e. ⊎_elim
            (λ k. ⊎_elim
            (λ m. inl (a.keep w m))
            (⊎_map (λ i. subst t' (sym i) a.new) (λ i. in_right w l s i))
            (p.shut b w k e))
            (λ i. ⊎_map (λ m. m) (λ j. in_left w l s j) (u.all w (subst (λ z. In w (out z)) i e)))
            (a.only b h);
        begun = ⊎_elim
            (λ k. inl (a.keep x k))
            (⊎_map (λ e. subst t' (sym e) a.new) (λ i. in_right x l s i))
            p.begun;
        once = (λ i. n (p.new v i).0, p.once);
      }

  -- at the end
  pub part_shut : (t : ℕ → Type 0) (g : List ℕ) → Part out t0 t x [] g → (u w : ℕ) → t u → In w (out u) → t w
  part_shut t g p u w h e = ⊎_elim (λ a. a) (λ z. absurd z) (p.shut u w h e)

  pub part_all : (t : ℕ → Type 0) (g : List ℕ) → Part out t0 t x [] g → (w : ℕ) → Reach (Leads out) x w → t w
  part_all t g p w r = reach_keeps t (part_shut t g p) (⊎_elim (λ a. a) (λ z. absurd z) p.begun) r

  -- the order in the group is no matter
  pub part_reverse : (t : ℕ → Type 0) (g : List ℕ) → Part out t0 t x [] g → Part out t0 t x [] (reverse g)
  part_reverse t g p = record {
    old = p.old;
    new = λ y i. p.new y (reverse_in g y i);
    only = λ y h. ⊎_map (λ o. o) (λ i. in_reverse g y i) (p.only y h);
    reached = λ y i. p.reached y (reverse_in g y i);
    aimed = p.aimed;
    shut = p.shut;
    begun = p.begun;
    once = reverse_distinct g p.once;
  }
