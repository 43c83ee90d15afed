-- The roots are the listed nodes whose component no inside edge enters. Assumes nothing.
use Rattle.std.proofs.Common.{◌≡◌, ℕ, zero, suc, ◌<◌, Bool, true, false, not, ◌&&◌, eqb, ◌⊎◌, List, [], ◌∷◌, ◌++◌, filter, sym, refl, ap, ◌∙◌, subst, inl, inr, ⊎_elim, arith}
use Rattle.std.proofs.lemmas.Bool.{true≢false, cases_Bool, eqb-true, eq-eqb, and_parts, and_from, or_cases, or_left, or_right, not-true, not_from_false}
use Rattle.theory.specs.Components.{Classes, Components, components, flat}
use Rattle.theory.specs.Edges.{Edge, In, within}
use Rattle.theory.specs.Graphs.{Sound, Tied}
use Rattle.theory.specs.Listings.{Ascending, Direction, Root, Roots, RootsAreEntries, RootsAreOne, entered, far, followed, inside, near, roots, some, together}
use Rattle.theory.specs.PostOrder.{below}
use Rattle.theory.specs.Reach.{Same, sources, targets}
use Rattle.theory.proofs.Following.{far_below, near_at, near_below}
use Rattle.theory.proofs.Grounds.{components_of_graph}
use Rattle.theory.proofs.Kept.{filter_keeps, in_kept, kept_in}
use Rattle.theory.proofs.Reaching.{in_cases, in_cast, same_sym, same_trans}
use Rattle.theory.proofs.Sweeping.{below_in, in_below}

-- a test of some item
some_from : {X : Type 0} (p : X → Bool) (l : List X) → some p l ≡ true → (x : X) × In x l × (p x ≡ true)
some_from p [] h = absurd (true≢false (sym h))
some_from p (y ∷ l) h =
    ⊎_elim
    (λ a. (y, inl refl, a))
    (λ b. let r = some_from p l b in (r.0, inr r.1, r.2))
    (or_cases (p y) (some p l) h)

some_to : {X : Type 0} (p : X → Bool) (l : List X) (x : X) → In x l → p x ≡ true → some p l ≡ true
some_to p [] x i h = absurd i
some_to p (y ∷ l) x (inl e) h = or_left (p y) (some p l) (ap p (sym e) ∙ h)
some_to p (y ∷ l) x (inr i) h = or_right (p y) (some p l) (some_to p l x i h)

has_to : (x : ℕ) (l : List ℕ) → In x l → some (eqb x) l ≡ true
has_to x l i = some_to (eqb x) l x i (eq-eqb x x refl)

has_from : (x : ℕ) (l : List ℕ) → some (eqb x) l ≡ true → In x l
has_from x l h = let r = some_from (eqb x) l h in in_cast l (sym (eqb-true x r.0 r.2)) r.1

-- two numbers are together when they share a component
module _ (out : ℕ → List ℕ) where
  class_of : (gs : List (List ℕ)) → Classes out gs → (g : List ℕ) → In g gs → (x : ℕ) × ((w : ℕ) → In w g → Same out x w) × ((w : ℕ) → Same out x w → In w g)
  class_of [] c g i = absurd i
  class_of (h ∷ gs) c g (inl e) =
      (c.0.0, λ w i. c.0.1 w (subst (In w) e i), λ w q. subst (In w) (sym e) (c.0.2 w q))
  class_of (h ∷ gs) c g (inr i) = class_of gs c.1 g i

  group_of : (gs : List (List ℕ)) (u : ℕ) → In u (flat gs) → (g : List ℕ) × In g gs × In u g
  group_of [] u i = absurd i
  group_of (g ∷ gs) u i =
      ⊎_elim
      (λ j. (g, inl refl, j))
      (λ j. let r = group_of gs u j in (r.0, inr r.1, r.2))
      (in_cases u g (flat gs) i)

  pub together_same : (gs : List (List ℕ)) → Classes out gs → (u w : ℕ) → together gs u w ≡ true → Same out u w
  together_same gs c u w h =
      let r = some_from (λ g. some (eqb u) g && some (eqb w) g) gs h in
      let both = and_parts (some (eqb u) r.0) (some (eqb w) r.0) r.2 in
      let k = class_of gs c r.0 r.1 in
      same_trans out u k.0 w (same_sym out k.0 u (k.1 u (has_from u r.0 both.0))) (k.1 w (has_from w r.0 both.1))

  pub same_together : (gs : List (List ℕ)) → Classes out gs → (u w : ℕ) → In u (flat gs) → Same out u w → together gs u w ≡ true
  same_together gs c u w i q =
      let r = group_of gs u i in
      let k = class_of gs c r.0 r.1 in
      let j : In w r.0 = k.2 w (same_trans out k.0 u w (k.1 u r.2) q) in
      some_to (λ g. some (eqb u) g && some (eqb w) g) gs r.0 r.1 (and_from (some (eqb u) r.0) (some (eqb w) r.0) (has_to u r.0 r.2) (has_to w r.0 j))

ascending_end : (l : List ℕ) (n : ℕ) → Ascending l → ((x : ℕ) → In x l → x < n) → Ascending (l ++ (n ∷ []))
ascending_end [] n a h = (λ y z. absurd z, tt)
ascending_end (x ∷ l) n a h = (
  λ y i. ⊎_elim (a.0 y) (⊎_elim (λ e. subst (λ z. x < z) (sym e) (h x (inl refl))) (λ z. absurd z)) (in_cases y l (n ∷ []) i),
  ascending_end l n a.1 (λ y i. h y (inr i)),
)

pub ascending_below : (n : ℕ) → Ascending (below n)
unfolding below
ascending_below zero = tt
ascending_below (suc n) = ascending_end (below n) n (ascending_below n) (below_in n)

pub ascending_kept : (p : ℕ → Bool) (l : List ℕ) → Ascending l → Ascending (filter p l)
ascending_kept p = filter_keeps Ascending p tt (λ x l a. a.1) (λ x l m a sub k. (λ y i. a.0 y (sub y i), k))

module _ (W : Type 0) (node : ℕ → Bool) (bound edges : ℕ) (outs ins : ℕ → List (Edge W)) (s : Sound node bound edges outs) (t : Tied outs ins) (d : Direction) (p : ℕ → Bool) where
  abbrev pub groups_here : List (List ℕ)
  groups_here = components (targets outs) (sources ins) bound

  abbrev comes : ℕ → ℕ → Edge W → Bool
  comes n a e = together groups_here (far d e) n && not (together groups_here a n)

  c : Components (targets outs) bound groups_here
  c = components_of_graph W node bound edges outs ins s t

  pub not_entered : (n : ℕ) → entered d p outs ins bound groups_here n ≡ false → Root d p outs ins n
  not_entered n h a e i q = pick (cases_Bool (together groups_here a n))
    where
      k : In e (followed d outs ins a) × (within p e ≡ true)
      k = in_kept (within p) (followed d outs ins a) e i

      pick : (together groups_here a n ≡ true) ⊎ (together groups_here a n ≡ false) → Same (targets outs) (near d e) n
      pick (inl y) = subst (λ z. Same (targets outs) z n) (sym (near_at s t d a e k.0)) (together_same (targets outs) groups_here c.classes a n y)
      pick (inr m) =
          let far_in = same_together (targets outs) groups_here c.classes (far d e) n (c.all (far d e) (far_below s t d a e k.0)) q in
          let one = some_to (comes n a) (inside d p outs ins a) e i (and_from (together groups_here (far d e) n) (not (together groups_here a n)) far_in (not_from_false (together groups_here a n) m)) in
          let any = some_to (λ a. some (comes n a) (inside d p outs ins a)) (below bound) a (in_below bound a (near_below s t d a e k.0)) one in
          absurd (true≢false (sym any ∙ h))

  -- an edge that enters the component of n from another
  pub entering : (n : ℕ) → entered d p outs ins bound groups_here n ≡ true → (a : ℕ) × (e : Edge W) × In e (inside d p outs ins a) × Same (targets outs) (far d e) n × (Same (targets outs) (near d e) n → ⊥)
  entering n h =
      let x = some_from (λ a. some (comes n a) (inside d p outs ins a)) (below bound) h in
      let a = x.0 in
      let y = some_from (comes n a) (inside d p outs ins a) x.2 in
      let e = y.0 in
      let both = and_parts (together groups_here (far d e) n) (not (together groups_here a n)) y.2 in
      let is = near_at s t d a e (in_kept (within p) (followed d outs ins a) e y.1).0 in (
        a,
        e,
        y.1,
        together_same (targets outs) groups_here c.classes (far d e) n both.0,
        λ q.
            let mates = same_together (targets outs) groups_here c.classes a n (c.all a (below_in bound a x.1)) (subst (λ z. Same (targets outs) z n) is q) in
            true≢false (sym mates ∙ not-true (together groups_here a n) both.1),
      )

  never_entered : (n : ℕ) → Root d p outs ins n → entered d p outs ins bound groups_here n ≡ true → ⊥
  never_entered n r h = let x = entering n h in x.4 (r x.0 x.1 x.2 x.3)

  roots_here : Roots d p outs ins bound (roots d p outs ins bound)
  unfolding roots
  roots_here =
      let test : ℕ → Bool = λ n. p n && not (entered d p outs ins bound groups_here n) in
      let parts : (n : ℕ) → In n (filter test (below bound)) → (p n ≡ true) × (not (entered d p outs ins bound groups_here n) ≡ true) = λ n i. and_parts (p n) (not (entered d p outs ins bound groups_here n)) (in_kept test (below bound) n i).1 in
      record {
        ascending = ascending_kept test (below bound) (ascending_below bound);
        nodes = λ n i. below_in bound n (in_kept test (below bound) n i).0;
        listed = λ n i. (parts n i).0;
        root = λ n i. not_entered n (not-true (entered d p outs ins bound groups_here n) (parts n i).1);
        all = λ n lt h r. kept_in test (below bound) n (in_below bound n lt) (and_from (p n) (not (entered d p outs ins bound groups_here n)) h (⊎_elim (λ y. absurd (never_entered n r y)) (not_from_false (entered d p outs ins bound groups_here n)) (cases_Bool (entered d p outs ins bound groups_here n))));
      }

pub roots_are_entries : (W : Type 0) → RootsAreEntries W
roots_are_entries W node bound edges outs ins s t d p = roots_here W node bound edges outs ins s t d p

-- ascending lists of the same numbers are one
ascending_one : (l m : List ℕ) → Ascending l → Ascending m → ((x : ℕ) → In x l → In x m) → ((x : ℕ) → In x m → In x l) → l ≡ m
ascending_one [] [] a b f g = refl
ascending_one [] (y ∷ m) a b f g = absurd (g y (inl refl))
ascending_one (x ∷ l) [] a b f g = absurd (f x (inl refl))
ascending_one (x ∷ l) (y ∷ m) a b f g =
    ap2 is (ascending_one l m a.1 b.1
    (λ z i. ⊎_elim (λ e. absurd (let lt = a.0 z i in let q = is in omega arith)) (λ j. j) (f z (inr i)))
    (λ z i. ⊎_elim (λ e. absurd (let lt = b.0 z i in let q = is in omega arith)) (λ j. j) (g z (inr i))))
  where
    first : In x (y ∷ m) → In y (x ∷ l) → x ≡ y
    first (inl e) j = e
    first (inr i) (inl e) = sym e
    first (inr i) (inr j) = absurd (let lt = b.0 x i in let gt = a.0 y j in omega arith)

    is : x ≡ y
    is = first (f x (inl refl)) (g y (inl refl))

    ap2 : x ≡ y → l ≡ m → x ∷ l ≡ y ∷ m
    ap2 e q = cc

pub roots_are_one : (W : Type 0) → RootsAreOne W
roots_are_one W node bound edges outs ins s t d p rs r =
    let q = roots_are_entries W node bound edges outs ins s t d p in
    ascending_one rs (roots d p outs ins bound) r.ascending q.ascending
    (λ x i. q.all x (r.nodes x i) (r.listed x i) (r.root x i))
    (λ x i. r.all x (q.nodes x i) (q.listed x i) (q.root x i))
