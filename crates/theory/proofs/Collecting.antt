-- Kosaraju's groups are the components: what is kept from group to group, and where it ends. Assumes nothing.
use Rattle.std.proofs.Common.{◌≡◌, ℕ, ◌+◌, ◌<◌, ◌≤◌, ◌⊎◌, List, [], ◌∷◌, ◌++◌, reverse, length, sym, refl, subst, inl, inr, ⊎_elim, arith}
use Rattle.std.proofs.Math.Logic.{⊎_map}
use Rattle.theory.specs.Components.{Classes, Components, Onward, collect, components, flat, gather, group, pull, take}
use Rattle.theory.specs.Edges.{In, Distinct}
use Rattle.theory.specs.PostOrder.{Post, below, fresh, fuel, in?, sweep, weight}
use Rattle.theory.specs.Reach.{Inside, Leads, Reach, Same, Turned, here}
use Rattle.theory.proofs.Finishing.{late}
use Rattle.theory.proofs.Gathering.{Part, part_all, part_reverse, part_shut, part_skip, part_start, part_take}
use Rattle.theory.proofs.Pushing.{adds, fresh_length, pushed, weight_falls, weight_most}
use Rattle.theory.proofs.Reaching.{in_cases, in_left, in_right, popped, reach_keeps, reach_turn}
use Rattle.theory.proofs.PostRunning.{Falls, Nodes, fresh_nodes, one_node}
use Rattle.theory.proofs.Machines.{all_keep, comes_to_end}
use Rattle.theory.proofs.Steps.{Empty, gather_machine, pull_stays}
use Rattle.theory.proofs.Sweeping.{sweep_finishes_in_post_order}

-- a statement on states that every taking keeps is kept by a gathering
pub gather_keeps : (out : ℕ → List ℕ) (P : (s t g : List ℕ) → Type 0)
    → ((v : ℕ) (s t g : List ℕ) (a : Dec (In v t)) → P (v ∷ s) t g → P (take out v s t g a).stack (take out v s t g a).disc (take out v s t g a).fin)
    → (k : ℕ) (s t g : List ℕ) → P s t g → P (gather out k s t g).stack (gather out k s t g).disc (gather out k s t g).fin
gather_keeps out P keep k s t g h =
    all_keep (gather_machine out) (λ x. P x.stack x.disc x.fin) (λ x. each x.stack x.disc x.fin) k (record { stack = s; disc = t; fin = g }) h
  where
    each : (s t g : List ℕ) → P s t g → P (pull out s t g).stack (pull out s t g).disc (pull out s t g).fin
    each [] t g p = p
    each (v ∷ s) t g p = keep v s t g (in? v t) p

once_append : (s t : List ℕ) → Distinct s → Distinct t → ((x : ℕ) → In x s → In x t → ⊥) → Distinct (s ++ t)
once_append [] t a b n = b
once_append (x ∷ s) t a b n = (
  λ i. ⊎_elim a.0 (n x (inl refl)) (in_cases x s t i),
  once_append s t a.1 b (λ y i. n y (inr i)),
)

reach_node : (out : ℕ → List ℕ) (n : ℕ) → Inside n out → (a b : ℕ) → a < n → Reach (Leads out) a b → b < n
reach_node out n inside a b h r = reach_keeps (λ z. z < n) (λ u w _ e. inside u w e) h r

module _ (out : ℕ → List ℕ) (n : ℕ) (inside : Inside n out) where
  take_falls : (v : ℕ) (s t g : List ℕ) (a : Dec (In v t)) → Nodes n (v ∷ s) → Falls out n inside (v ∷ s) t (take out v s t g a)
  take_falls v s t g (yes j) h = (λ y i. h y (inr i), omega arith)
  take_falls v s t g (no m) h = (
    fresh_nodes out n inside t v s (λ y i. h y (inr i)),
    omega (arith, fresh_length (v ∷ t) (out v) s, weight_falls out n t v (h v (inl refl)) m),
  )

  pull_falls : (s t g : List ℕ) → Nodes n s → (s ≡ []) ⊎ Falls out n inside s t (pull out s t g)
  pull_falls [] t g h = inl refl
  pull_falls (v ∷ s) t g h = inr (take_falls v s t g (in? v t) h)

  gather_ends : (k : ℕ) (s t g : List ℕ) → Nodes n s → length s + weight out n t ≤ k → (gather out k s t g).stack ≡ []
  gather_ends k s t g h m =
      (comes_to_end (gather_machine out) Empty (pull_stays out) (λ x. Nodes n x.stack) (λ x. length x.stack + weight out n x.disc)
      (λ x. pull_falls x.stack x.disc x.fin) k (record { stack = s; disc = t; fin = g }) h m).0

  abbrev Parts : (t0 : List ℕ) (x : ℕ) (s t g : List ℕ) → Type 0
  Parts t0 x s t g = Part out (λ y. In y t0) (λ y. In y t) x s g

  take_part : (t0 : List ℕ) (x v : ℕ) (s t g : List ℕ) (a : Dec (In v t)) → Parts t0 x (v ∷ s) t g → Parts t0 x (take out v s t g a).stack (take out v s t g a).disc (take out v s t g a).fin
  take_part t0 x v s t g (yes j) p = part_skip out (λ y. In y t0) x (λ y. In y t) v s g p j
  take_part t0 x v s t g (no m) p = part_take out (λ y. In y t0) x (λ y. In y t) (λ y. In y (v ∷ t)) v s g (fresh (v ∷ t) (out v)) p m (adds t v) (pushed out t v)

  gathered : (k : ℕ) → fuel out n ≤ k → (x : ℕ) (t : List ℕ) → x < n → ((u w : ℕ) → In u t → In w (out u) → In w t) → let y = gather out k (x ∷ []) t [] in Parts t x [] y.disc y.fin
  unfolding fuel
  gathered k m x t lt c =
      let y = gather out k (x ∷ []) t [] in
      let p = gather_keeps out (Parts t x) (take_part t x) k (x ∷ []) t [] (part_start out (λ z. In z t) x c) in
      let ends = gather_ends k (x ∷ []) t [] (one_node lt) (omega (arith, weight_most out n t)) in
      subst (λ s. Parts t x s y.disc y.fin) ends p

-- l is what is left of the nodes in the order of finishing, t is taken
pub record Grouping (out inn : ℕ → List ℕ) (n : ℕ) (l : List ℕ) (t : ℕ → Type 0) (gs : List (List ℕ)) : Type 0 where
  pub shut : (u w : ℕ) → t u → In w (out u) → t w
  pub left : (x : ℕ) → x < n → t x ⊎ In x l
  pub post : Post inn l
  pub apart : Distinct l
  pub ahead : (x : ℕ) → In x l → x < n
  pub nodes : (x : ℕ) → t x → x < n
  pub to : (x : ℕ) → t x → In x (flat gs)
  pub of : (x : ℕ) → In x (flat gs) → t x
  pub once : Distinct (flat gs)
  pub classes : Classes out gs
  pub onward : Onward out gs

module _ (out inn : ℕ → List ℕ) (n : ℕ) (inside : Inside n out) (inside' : Inside n inn) (turned : Turned out inn) where
  flip : {a b : ℕ} → Reach (Leads out) a b → Reach (Leads inn) b a
  flip r = reach_turn turned.0 r

  flop : {a b : ℕ} → Reach (Leads inn) a b → Reach (Leads out) b a
  flop r = reach_turn (λ a b e. turned.1 b a e) r

  -- what the first of the list, if not taken, is gathered with, is of its component
  one_class : (x : ℕ) (l : List ℕ) (t : ℕ → Type 0) (gs : List (List ℕ)) → Grouping out inn n (x ∷ l) t gs → (t x → ⊥) → (z : ℕ) → (t z → ⊥) → Reach (Leads out) x z → Same out x z
  one_class x l t gs h m z nz r = at (⊎_elim (λ a. absurd (nz a)) (λ a. a) (h.left z (reach_node out n inside x z (h.ahead x (inl refl)) r)))
    where
      at : In z (x ∷ l) → Same out x z
      at (inl e) = subst (Same out x) (sym e) (here, here)
      at (inr i) =
          let y = late inn l h.post.1 x h.apart.0 z i (flip r) in
          let s = y.2 in
          let lt : y.0 < n = reach_node inn n inside' z y.0 (h.ahead z (inr i)) s.0 in
          let free : t y.0 → ⊥ = λ a. nz (reach_keeps t h.shut a (flop s.0)) in
          let is : y.0 ≡ x = ⊎_elim (λ a. absurd (free a)) (⊎_elim (λ e. e) (λ a. absurd (y.1 a))) (h.left y.0 lt) in
          (r, flop (subst (λ a. Reach (Leads inn) a z) is s.1))

  pub grouping_skip : (x : ℕ) (l : List ℕ) (t : ℕ → Type 0) (gs : List (List ℕ)) → Grouping out inn n (x ∷ l) t gs → t x → Grouping out inn n l t gs
  grouping_skip x l t gs h j = record {
    shut = h.shut;
    left = λ y lt. popped t l j (h.left y lt);
    post = h.post.1;
    apart = h.apart.1;
    ahead = λ y a. h.ahead y (inr a);
    nodes = h.nodes;
    to = h.to;
    of = h.of;
    once = h.once;
    classes = h.classes;
    onward = h.onward;
  }

  pub grouping_next : (x : ℕ) (l : List ℕ) (t t' : ℕ → Type 0) (g : List ℕ) (gs : List (List ℕ)) → Grouping out inn n (x ∷ l) t gs → (t x → ⊥) → Part out t t' x [] g → Grouping out inn n l t' (g ∷ gs)
  grouping_next x l t t' g gs h j p =
      let lt : x < n = h.ahead x (inl refl) in
      let mine : t' x = part_all out t x t' g p x here in
      let shut : (u w : ℕ) → t' u → In w (out u) → t' w = part_shut out t x t' g p in
      let into : (z : ℕ) → t' z → In z (g ++ flat gs) = λ z i. ⊎_elim (λ a. in_right z g (flat gs) (h.to z a)) (λ a. in_left z g (flat gs) a) (p.only z i) in
      record {
        shut = shut;
        left = λ z b. ⊎_elim (λ a. inl (p.old z a)) (⊎_map (λ e. subst t' (sym e) mine) (λ a. a)) (h.left z b);
        post = h.post.1;
        apart = h.apart.1;
        ahead = λ z a. h.ahead z (inr a);
        nodes = λ z i. ⊎_elim (h.nodes z) (λ a. reach_node out n inside x z lt (p.reached z a)) (p.only z i);
        to = into;
        of = λ z i. ⊎_elim (λ a. (p.new z a).0) (λ a. p.old z (h.of z a)) (in_cases z g (flat gs) i);
        once = once_append g (flat gs) p.once h.once (λ z a b. (p.new z a).1 (h.of z b));
        classes = (
          (
            x,
            λ w a. one_class x l t gs h j w (p.new w a).1 (p.reached w a),
            λ w s. ⊎_elim
                (λ a. absurd (j (reach_keeps t h.shut a s.1)))
                (λ a. a)
                (p.only w (part_all out t x t' g p w s.0)),
          ),
          h.classes,
        );
        onward = (λ u w a e. in_cases w g (flat gs) (into w (shut u w (p.new u a).0 e)), h.onward);
      }

  -- before the first: f is the order of finishing
  pub grouping_start : (f : List ℕ) (t : ℕ → Type 0) → Distinct f → Post inn f → ((x : ℕ) → x < n → In x f) → ((x : ℕ) → In x f → x < n) → ((x : ℕ) → t x → ⊥) → Grouping out inn n f t []
  grouping_start f t o p all nodes z = record {
    shut = λ u w i e. absurd (z u i);
    left = λ x lt. inr (all x lt);
    post = p;
    apart = o;
    ahead = nodes;
    nodes = λ x i. absurd (z x i);
    to = λ x i. z x i;
    of = λ x i. absurd i;
    once = tt;
    classes = tt;
    onward = tt;
  }

  pub grouping_done : (t : ℕ → Type 0) (gs : List (List ℕ)) → Grouping out inn n [] t gs → Components out n gs
  grouping_done t gs h = record {
    all = λ x lt. ⊎_elim (h.to x) (λ a. absurd a) (h.left x lt);
    nodes = λ x i. h.nodes x (h.of x i);
    once = h.once;
    classes = h.classes;
    onward = h.onward;
  }

  group_keeps : (k : ℕ) → fuel out n ≤ k → (x : ℕ) (l t : List ℕ) (gs : List (List ℕ)) (c : Dec (In x t)) → Grouping out inn n (x ∷ l) (λ y. In y t) gs → let y = group out k x t gs c in Grouping out inn n l (λ z. In z y.taken) y.groups
  group_keeps k m x l t gs (yes j) h = grouping_skip x l (λ y. In y t) gs h j
  group_keeps k m x l t gs (no j) h =
      let y = gather out k (x ∷ []) t [] in
      grouping_next x l (λ z. In z t) (λ z. In z y.disc) (reverse y.fin) gs h j (part_reverse out (λ z. In z t) x (λ z. In z y.disc) y.fin (gathered out n inside k m x t (h.ahead x (inl refl)) h.shut))

  collect_keeps : (k : ℕ) → fuel out n ≤ k → (l t : List ℕ) (gs : List (List ℕ)) → Grouping out inn n l (λ y. In y t) gs → Components out n (collect out k l t gs)
  unfolding collect
  collect_keeps k m [] t gs h = grouping_done (λ y. In y t) gs h
  collect_keeps k m (x ∷ l) t gs h =
      let y = group out k x t gs (in? x t) in
      collect_keeps k m l y.taken y.groups (group_keeps k m x l t gs (in? x t) h)

pub groups_are_components : (out inn : ℕ → List ℕ) (n : ℕ) → Inside n out → Inside n inn → Turned out inn → Components out n (components out inn n)
unfolding components
groups_are_components out inn n inside inside' turned =
    let f = (sweep inn (fuel inn n) (below n) [] []).fin in
    let o = sweep_finishes_in_post_order inn n inside' in
    collect_keeps out inn n inside inside' turned (fuel out n) (omega arith) f [] [] (grouping_start out inn n inside inside' turned f (λ y. In y []) o.0 o.1 o.2 o.3 (λ x z. z))
