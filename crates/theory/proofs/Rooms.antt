-- How much room the stacks of the walks want: at most a place for each edge besides what they began with. Assumes nothing.
use Rattle.std.proofs.Common.{◌≡◌, ℕ, zero, suc, ◌+◌, ◌<◌, ◌≤◌, Bool, List, [], ◌∷◌, ◌++◌, length, refl, ap, subst, inl, inr, ⊎_elim, arith, length-append}
use Rattle.std.proofs.lemmas.List.{length-map}
use Rattle.std.proofs.lemmas.List.Sums.{count_by-le-length, length-filter}
use Rattle.std.proofs.Math.ListN.{length-reverse_aux}
use Rattle.theory.specs.Components.{GatherFits, StacksFit, take}
use Rattle.theory.specs.Edges.{Edge, In, Once, within}
use Rattle.theory.specs.Graphs.{Sound, Tied}
use Rattle.theory.specs.Listings.{Direction, Forward, LinksFit, Reverse, begin, far, followed, inside, meet, near, roots, shows}
use Rattle.theory.specs.PostOrder.{StackFits, in?, share, visit}
use Rattle.theory.specs.Reach.{Inside, sources, targets}
use Rattle.theory.specs.Walk as walk
use Rattle.theory.proofs.Collecting.{gather_keeps}
use Rattle.theory.proofs.Following.{listed_once, near_at, number_below, one_number}
use Rattle.theory.proofs.Grounds.{sources_inside, targets_inside}
use Rattle.theory.proofs.Kept.{at_most}
use Rattle.theory.proofs.Left.{left_edges, left_less, left_listed, left_unlisted, listed, share_is}
use Rattle.theory.proofs.Linking.{Lists, inside_lists, meet_shown}
use Rattle.theory.proofs.Pushing.{fresh_length}
use Rattle.theory.proofs.Reaching.{in_cases, pushed_in}
use Rattle.theory.proofs.Rooting.{roots_are_entries}
use Rattle.theory.proofs.PostRunning.{Nodes, fresh_nodes, one_node, run_keeps}

module _ {X : Type 0} (out : ℕ → List X) where
  pub share_falls : (n : ℕ) (d : List ℕ) (v : ℕ) → v < n → (In v d → ⊥) → share out n (v ∷ d) + length (out v) ≡ share out n d
  share_falls n d v b m = omega (arith, share_is out n (v ∷ d), share_is out n d, left_listed (λ u. length (out u)) d v n b m)

  -- lists that are no longer, and no fewer nodes
  share_less : {Y : Type 0} (lst : ℕ → List Y) (n : ℕ) (d : List ℕ) → ((u : ℕ) → length (out u) ≤ length (lst u)) → share out n d ≤ share lst n []
  share_less lst n d h =
      omega (arith, share_is out n d, share_is lst n [], left_less (λ u. length (out u)) (λ u. length (lst u)) (listed d) n h, left_unlisted (λ u. length (lst u)) n)

module _ (out : ℕ → List ℕ) (n : ℕ) (inside : Inside n out) (m : ℕ) where
  abbrev Fit : (s d f : List ℕ) → Type 0
  Fit s d f = Nodes n s × (length s + share out n d ≤ m)

  visit_fit : (v : ℕ) (s d f : List ℕ) (a : Dec (In v d)) (b : Dec (In v f)) → Fit (v ∷ s) d f → Fit (visit out v s d f a b).stack (visit out v s d f a b).disc (visit out v s d f a b).fin
  visit_fit v s d f (no k) b h = (
    fresh_nodes out n inside d v (v ∷ s) h.0,
    omega (arith, fresh_length (v ∷ d) (out v) (v ∷ s), share_falls out n d v (h.0 v (inl refl)) k, h.1),
  )
  visit_fit v s d f (yes i) (yes j) h = (λ y k. h.0 y (inr k), omega (arith, h.1))
  visit_fit v s d f (yes i) (no j) h = (λ y k. h.0 y (inr k), omega (arith, h.1))

  take_fit : (v : ℕ) (s t g : List ℕ) (a : Dec (In v t)) → Fit (v ∷ s) t g → Fit (take out v s t g a).stack (take out v s t g a).disc (take out v s t g a).fin
  take_fit v s t g (yes i) h = (λ y k. h.0 y (inr k), omega (arith, h.1))
  take_fit v s t g (no k) h = (
    fresh_nodes out n inside t v s (λ y i. h.0 y (inr i)),
    omega (arith, fresh_length (v ∷ t) (out v) s, share_falls out n t v (h.0 v (inl refl)) k, h.1),
  )

pub stack_fits : StackFits
stack_fits out n inside k s d f nodes =
    (run_keeps out (Fit out n inside (length s + share out n d)) (visit_fit out n inside (length s + share out n d)) k s d f (nodes, omega arith)).1

pub gather_fits : GatherFits
gather_fits out n inside k s t g nodes =
    (gather_keeps out (Fit out n inside (length s + share out n t)) (take_fit out n inside (length s + share out n t)) k s t g (nodes, omega arith)).1

-- the edges of the lists of the nodes below n in one list
abbrev joined : {X : Type 0} → (ℕ → List X) → ℕ → List X
joined lst zero = []
joined lst (suc n) = joined lst n ++ lst n

joined_length : {X : Type 0} (lst : ℕ → List X) (n : ℕ) → walk.edges lst n ≡ length (joined lst n)
joined_length lst zero = refl
joined_length lst (suc n) = omega (arith, joined_length lst n, length-append (joined lst n) (lst n))

joined_in : {X : Type 0} (lst : ℕ → List X) (n : ℕ) (e : X) → In e (joined lst n) → (a : ℕ) × (a < n) × In e (lst a)
joined_in lst zero e i = absurd i
joined_in lst (suc n) e i =
    ⊎_elim
    (λ j. let r = joined_in lst n e j in (r.0, (let lt = r.1 in omega arith), r.2))
    (λ j. (n, omega arith, j))
    (in_cases e (joined lst n) (lst n) i)

once_append : {W : Type 0} (es fs : List (Edge W)) → Once es → Once fs → ((e f : Edge W) → In e es → In f fs → f.number ≡ e.number → ⊥) → Once (es ++ fs)
once_append [] fs a b n = b
once_append (e ∷ es) fs a b n = (
  λ f i same. ⊎_elim (λ j. a.0 f j same) (λ j. n e f (inl refl) j same) (in_cases f es fs i),
  once_append es fs a.1 b (λ g f i. n g f (inr i)),
)

module _ {W : Type 0} {node : ℕ → Bool} {bound edges : ℕ} {outs ins : ℕ → List (Edge W)} (s : Sound node bound edges outs) (t : Tied outs ins) (d : Direction) where
  joined_once : (n : ℕ) → Once (joined (followed d outs ins) n)
  joined_once zero = tt
  joined_once (suc n) =
      once_append (joined (followed d outs ins) n) (followed d outs ins n) (joined_once n) (listed_once s t d n)
      (λ e f i j same.
      let r = joined_in (followed d outs ins) n e i in
      let is : f ≡ e = one_number s t d n r.0 f e j r.2 same in
      let a : near d f ≡ n = near_at s t d n f j in
      let b : near d e ≡ r.0 = near_at s t d r.0 e r.2 in
      let c : near d f ≡ near d e = ap (near d) is in
      let lt = r.1 in omega arith)

  pub edges_counted : share (followed d outs ins) bound [] ≤ edges
  edges_counted =
      let few = at_most edges (joined (followed d outs ins) bound) (joined_once bound) (λ e i. let r = joined_in (followed d outs ins) bound e i in number_below s t d r.0 e r.2) in
      let lst = followed d outs ins in
      omega (arith, joined_length lst bound, left_edges lst bound, left_unlisted (λ u. length (lst u)) bound, share_is lst bound [])

pub stacks_fit : (W : Type 0) → StacksFit W
stacks_fit W node bound edges outs ins s t i lt k d f = (
  let a = stack_fits (sources ins) bound (sources_inside s t) k (i ∷ []) d f (one_node lt) in
      let b = share_less (sources ins) ins bound d (λ u. omega (arith, length-map (ins u) (λ e. e.source))) in
      let e = edges_counted s t Reverse in omega arith,
  let a = gather_fits (targets outs) bound (targets_inside s) k (i ∷ []) d f (one_node lt) in
      let b = share_less (targets outs) outs bound d (λ u. omega (arith, length-map (outs u) (λ e. e.target))) in
      let e = edges_counted s t Forward in omega arith,
)

module _ {X : Type 0} (lst : ℕ → List X) (at to : X → ℕ) (n : ℕ) (ls : Lists lst at to n) where
  abbrev Room : (s : List X) (d : List ℕ) (h : List X) → Type 0
  Room s d h = ((e : X) → In e s → to e < n) × (length s + length h + share lst n d ≡ share lst n [])

  meet_room : (u : ℕ) (s : List X) (d : List ℕ) (h : List X) (c : Dec (In u d)) → u < n → Room s d h → let x = meet lst u s d h c in Room x.stack x.met x.shown
  meet_room u s d h (yes i) lt r = r
  meet_room u s d h (no m) lt r = (
    λ e i. ⊎_elim (λ j. ls.nodes u e j) (r.0 e) (pushed_in (lst u) s e i),
    omega (arith, length-reverse_aux (lst u) s, share_falls lst n d u lt m, r.1),
  )

  begin_room : (rs : List ℕ) (s : List X) (d : List ℕ) → ((r : ℕ) → In r rs → r < n) → Room s d [] → let x = begin lst rs s d in Room x.stack x.met []
  unfolding begin
  begin_room [] s d lt r = r
  begin_room (q ∷ rs) s d lt r =
      let c = in? q d in
      let y = meet lst q s d [] c in
      begin_room rs y.stack y.met (λ z i. lt z (inr i)) (subst (Room y.stack y.met) (meet_shown lst q s d [] c) (meet_room q s d [] c (lt q (inl refl)) r))

  shows_room : (k : ℕ) (s : List X) (d : List ℕ) (h : List X) → Room s d h → let x = shows lst to k s d h in Room x.stack x.met x.shown
  unfolding shows
  shows_room zero s d h r = r
  shows_room (suc k) [] d h r = shows_room k [] d h r
  shows_room (suc k) (e ∷ s) d h r =
      let c = in? (to e) d in
      let x = meet lst (to e) s d (e ∷ h) c in
      shows_room k x.stack x.met x.shown (meet_room (to e) s d (e ∷ h) c (r.0 e (inl refl)) (λ y i. r.0 y (inr i), omega (arith, r.1)))

pub links_fit : (W : Type 0) → LinksFit W
links_fit W node bound edges outs ins s t d p k =
    let lst = inside d p outs ins in
    let ls = inside_lists s t d p in
    let rs = roots d p outs ins bound in
    let b = begin lst rs [] [] in
    let r = shows_room lst (near d) (far d) bound ls k b.stack b.met [] (begin_room lst (near d) (far d) bound ls rs [] [] (roots_are_entries W node bound edges outs ins s t d p).nodes ((λ e z. absurd z), omega arith)) in (
      r.1,
      let a = share_less lst (followed d outs ins) bound [] (λ u. omega (arith, length-filter (within p) (followed d outs ins u), count_by-le-length (within p) (followed d outs ins u))) in
          let e = edges_counted s t d in omega arith,
    )
