-- Of a set that has its components whole every node is reached from a root along inside edges, so every inside edge is shown. Assumes nothing.
use Rattle.std.proofs.Common.{◌≡◌, ℕ, zero, suc, ◌-◌, ◌<◌, ◌≤◌, Bool, true, false, ◌⊎◌, List, [], ◌∷◌, ◌++◌, map, length, sym, refl, ap, ◌∙◌, inl, inr, ⊎_elim, arith}
use Rattle.std.proofs.lemmas.Bool.{cases_Bool, and_parts, and_from}
use Rattle.theory.specs.Components.{Classes, Components, Onward, components, flat}
use Rattle.theory.specs.Edges.{Edge, In, within, Distinct}
use Rattle.theory.specs.Graphs.{Sound, Tied}
use Rattle.theory.specs.Listings.{Behind, Direction, Forward, Link, LinksShowAll, Reverse, RootsReachAll, Whole, entered, far, followed, inside, near, roots}
use Rattle.theory.specs.PostOrder.{in?}
use Rattle.theory.specs.Reach.{Leads, Reach, Same, here, more, sources, targets}
use Rattle.theory.proofs.Following.{near_at, near_below}
use Rattle.theory.proofs.Grounds.{components_of_graph, leads_on, source_inside, sources_turned}
use Rattle.theory.proofs.Kept.{in_kept, kept_in}
use Rattle.theory.proofs.Linking.{links_show_what_roots_reach}
use Rattle.theory.proofs.Reaching.{in_cases, in_cast, in_left, in_map, in_right, reach_one, reach_trans, reach_turn, same_sym, same_trans}
use Rattle.theory.proofs.Rooting.{entering, not_entered, roots_are_entries}

-- how many groups stand before that of u
abbrev level : {A : Type 0} → Dec A → ℕ → ℕ
level (yes h) r = 0
level (no n) r = suc r

abbrev rank : List (List ℕ) → ℕ → ℕ
rank [] u = 0
rank (g ∷ gs) u = level (in? u g) (rank gs u)

level_same : {A B : Type 0} (a : Dec A) (b : Dec B) (r q : ℕ) → (A → B) → (B → A) → r ≡ q → level a r ≡ level b q
level_same (yes h) (yes k) r q f g e = refl
level_same (yes h) (no k) r q f g e = absurd (k (f h))
level_same (no h) (yes k) r q f g e = absurd (h (g k))
level_same (no h) (no k) r q f g e = ap suc e

level_most : {A : Type 0} (a : Dec A) (r m : ℕ) → r ≤ m → level a r ≤ suc m
level_most (yes h) r m lt = omega arith
level_most (no h) r m lt = omega arith

rank_most : (gs : List (List ℕ)) (u : ℕ) → rank gs u ≤ length gs
rank_most [] u = omega arith
rank_most (g ∷ gs) u = level_most (in? u g) (rank gs u) (length gs) (rank_most gs u)

distinct_right : (s t : List ℕ) → Distinct (s ++ t) → Distinct t
distinct_right [] t o = o
distinct_right (x ∷ s) t o = distinct_right s t o.1

distinct_apart : (s t : List ℕ) → Distinct (s ++ t) → (x : ℕ) → In x s → In x t → ⊥
distinct_apart [] t o x i j = i
distinct_apart (y ∷ s) t o x (inl e) j = o.0 (in_right y s t (in_cast t e j))
distinct_apart (y ∷ s) t o x (inr i) j = distinct_apart s t o.1 x i j

module _ (out : ℕ → List ℕ) where
  rank_same : (gs : List (List ℕ)) → Classes out gs → (u w : ℕ) → Same out u w → rank gs u ≡ rank gs w
  rank_same [] c u w q = refl
  rank_same (g ∷ gs) c u w q =
      level_same (in? u g) (in? w g) (rank gs u) (rank gs w)
      (λ i. c.0.2 w (same_trans out c.0.0 u w (c.0.1 u i) q))
      (λ i. c.0.2 u (same_trans out c.0.0 w u (c.0.1 w i) (same_sym out u w q)))
      (rank_same gs c.1 u w q)

  -- an edge out of a group or a later one ends in that group or a later one
  onward_in : (gs : List (List ℕ)) → Onward out gs → (a b : ℕ) → In a (flat gs) → In b (out a) → In b (flat gs)
  onward_in [] o a b i e = absurd i
  onward_in (g ∷ gs) o a b i e =
      ⊎_elim
      (λ j. ⊎_elim (in_left b g (flat gs)) (in_right b g (flat gs)) (o.0 a b j e))
      (λ j. in_right b g (flat gs) (onward_in gs o.1 a b j e))
      (in_cases a g (flat gs) i)

  rank_falls : (gs : List (List ℕ)) → Classes out gs → Onward out gs → Distinct (flat gs) → (u w : ℕ) → In u (flat gs) → In w (out u) → (Same out u w → ⊥) → rank gs u < rank gs w
  rank_falls [] c o s u w i e n = absurd i
  rank_falls (g ∷ gs) c o s u w i e n = go (rank_falls gs c.1 o.1 (distinct_right g (flat gs) s) u w) (in? u g) (in? w g)
    where
      go : (In u (flat gs) → In w (out u) → (Same out u w → ⊥) → rank gs u < rank gs w) → (a : Dec (In u g)) (b : Dec (In w g)) → level a (rank gs u) < level b (rank gs w)
      go ih (yes j) (yes k) = absurd (n (same_trans out u c.0.0 w (same_sym out c.0.0 u (c.0.1 u j)) (c.0.1 w k)))
      go ih (yes j) (no k) = omega arith
      go ih (no j) b =
          let later : In u (flat gs) = ⊎_elim (λ a. absurd (j a)) (λ a. a) (in_cases u g (flat gs) i) in
          past (ih later e n) (onward_in gs o.1 u w later e) b
        where
          past : rank gs u < rank gs w → In w (flat gs) → (b : Dec (In w g)) → suc (rank gs u) < level b (rank gs w)
          past lt m (yes k) = absurd (distinct_apart g (flat gs) s w k m)
          past lt m (no k) = omega arith

module _ (W : Type 0) (node : ℕ → Bool) (bound edges : ℕ) (outs ins : ℕ → List (Edge W)) (s : Sound node bound edges outs) (t : Tied outs ins) (p : ℕ → Bool) (whole : Whole (targets outs) p) where
  abbrev groups : List (List ℕ)
  groups = components (targets outs) (sources ins) bound

  right : Components (targets outs) bound groups
  right = components_of_graph W node bound edges outs ins s t

  -- what falls against each edge that is followed from one component to another
  abbrev height : Direction → ℕ → ℕ
  height Forward u = rank groups u
  height Reverse u = length groups - rank groups u

  height_same : (d : Direction) (u w : ℕ) → Same (targets outs) u w → height d u ≡ height d w
  height_same Forward u w q = rank_same (targets outs) groups right.classes u w q
  height_same Reverse u w q = ap (λ r. length groups - r) (rank_same (targets outs) groups right.classes u w q)

  rank_edge : (n : ℕ) (e : Edge W) → In e (outs n) → (Same (targets outs) e.source e.target → ⊥) → rank groups e.source < rank groups e.target
  rank_edge n e i m =
      rank_falls (targets outs) groups right.classes right.onward right.once e.source e.target (right.all e.source (source_inside s n e i)) (leads_on s n e i) m

  height_falls : (d : Direction) (a : ℕ) (e : Edge W) → In e (followed d outs ins a) → (Same (targets outs) (near d e) (far d e) → ⊥) → height d (near d e) < height d (far d e)
  height_falls Forward a e i m = rank_edge a e i m
  height_falls Reverse a e i m =
      let lt = rank_edge e.source e (t.out a e i) (λ q. m (same_sym (targets outs) e.source e.target q)) in
      let most = rank_most groups e.target in omega arith

  -- ways in a direction
  abbrev Along : Direction → ℕ → ℕ → Type 0
  Along d x y = Reach (Leads (λ u. map (far d) (followed d outs ins u))) x y

  along_same : (d : Direction) (x y : ℕ) → Along d x y → Along d y x → Same (targets outs) x y
  along_same Forward x y q r = (q, r)
  along_same Reverse x y q r = (reach_turn (λ a b e. (sources_turned s t).1 b a e) r, reach_turn (λ a b e. (sources_turned s t).1 b a e) q)

  same_along : (d : Direction) (x y : ℕ) → Same (targets outs) x y → Along d x y
  same_along Forward x y q = q.0
  same_along Reverse x y q = reach_turn (sources_turned s t).0 q.1

  near_listed : (d : Direction) (e : Edge W) → within p e ≡ true → p (near d e) ≡ true
  near_listed Forward e h = (and_parts (p e.source) (p e.target) h).0
  near_listed Reverse e h = (and_parts (p e.source) (p e.target) h).1

  both_listed : (d : Direction) (e : Edge W) → p (near d e) ≡ true → p (far d e) ≡ true → within p e ≡ true
  both_listed Forward e h k = and_from (p e.source) (p e.target) h k
  both_listed Reverse e h k = and_from (p e.source) (p e.target) k h

  -- a way there and back is of inside edges
  way : (d : Direction) (x y : ℕ) → Along d x y → Along d y x → p x ≡ true → Reach (Link (inside d p outs ins) (far d)) x y
  way d x y here back h = here
  way d x y (more {b = b} q i) back h =
      let found = in_map (far d) (followed d outs ins b) y i in
      let e = found.0 in
      let home : Along d b x = reach_trans (reach_one i) back in
      let pb : p b ≡ true = whole x b (along_same d x b q home) h in
      let py : p y ≡ true = whole x y (along_same d x y (more q i) back) h in
      let ok = both_listed d e (ap p (near_at s t d b e found.1) ∙ pb) (ap p found.2 ∙ py) in
      more (way d x b q home h) (e, kept_in (within p) (followed d outs ins b) e found.1 ok, found.2)

  abbrev Rooted : Direction → ℕ → Type 0
  Rooted d n = Behind (inside d p outs ins) (far d) (roots d p outs ins bound) n

  extend : (d : Direction) (a : ℕ) (e : Edge W) (n : ℕ) → In e (inside d p outs ins a) → Rooted d a → Reach (Link (inside d p outs ins) (far d)) (far d e) n → Rooted d n
  extend d a e n i r q = (r.0, r.1, reach_trans (more r.2 (e, i, refl)) q)

  -- by the height: a node is a root, or an edge from a lower component enters its own
  reached : (d : Direction) (k n : ℕ) → height d n < k → n < bound → p n ≡ true → Rooted d n
  reached d zero n lt b h = absurd (omega arith)
  reached d (suc k) n lt b h = go (reached d k) (cases_Bool (entered d p outs ins bound groups n))
    where
      go : ((m : ℕ) → height d m < k → m < bound → p m ≡ true → Rooted d m) → (entered d p outs ins bound groups n ≡ true) ⊎ (entered d p outs ins bound groups n ≡ false) → Rooted d n
      go ih (inr no_edge) =
          (n, (roots_are_entries W node bound edges outs ins s t d p).all n b h (not_entered W node bound edges outs ins s t d p n no_edge), here)
      go ih (inl some_edge) =
          let x = entering W node bound edges outs ins s t d p n some_edge in
          let a = x.0 in
          let e = x.1 in
          let kept = in_kept (within p) (followed d outs ins a) e x.2 in
          let is : near d e ≡ a = near_at s t d a e kept.0 in
          let falls = height_falls d a e kept.0 (λ q. x.4 (same_trans (targets outs) (near d e) (far d e) n q x.3)) in
          let level = height_same d (far d e) n x.3 in
          let same_height : height d (near d e) ≡ height d a = ap (height d) is in
          let before = ih a (omega arith) (near_below s t d a e kept.0) (ap p (sym is) ∙ near_listed d e kept.1) in
          let back = same_sym (targets outs) (far d e) n x.3 in
          extend d a e n x.2 before (way d (far d e) n (same_along d (far d e) n x.3) (same_along d n (far d e) back) (whole n (far d e) back h))

pub roots_reach_all : (W : Type 0) → RootsReachAll W
roots_reach_all W node bound edges outs ins s t d p whole n lt h = reached W node bound edges outs ins s t p whole d (suc (height W node bound edges outs ins s t p whole d n)) n (omega arith) lt h

pub links_show_all : (W : Type 0) → LinksShowAll W
links_show_all W node bound edges outs ins s t d p whole n e i =
    let k = in_kept (within p) (followed d outs ins n) e i in
    let listed = ap p (sym (near_at s t d n e k.0)) ∙ near_listed W node bound edges outs ins s t p whole d e k.1 in
    (links_show_what_roots_reach W node bound edges outs ins s t d p).all n e i (roots_reach_all W node bound edges outs ins s t d p whole n (near_below s t d n e k.0) listed)
