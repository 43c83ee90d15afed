-- The sweep from each node below the count finishes each once, in post-order. Assumes nothing.
use Rattle.std.proofs.Common.{◌≡◌, ℕ, zero, suc, ◌<◌, ◌≤◌, ◌⊎◌, List, [], ◌∷◌, ◌++◌, sym, refl, subst, inl, inr, ⊎_elim, arith}
use native.Mathlib.Decide.{ℕ_discrete}
use Rattle.theory.specs.Edges.{In, Distinct}
use Rattle.theory.specs.PostOrder.{Post, SweepFinishesInPostOrder, below, fuel, in?, run, sweep, visit, walk_from}
use Rattle.theory.specs.Reach.{Inside}
use Rattle.theory.proofs.Finishing.{post_step}
use Rattle.theory.proofs.Pushing.{weight_most}
use Rattle.theory.proofs.Reaching.{in_cases, in_cast, in_left, in_right}
use Rattle.theory.proofs.PostRunning.{Walking, fresh_nodes, one_node, run_ends, run_keeps, top_of, visit_begun, visit_walk}
use Rattle.theory.proofs.PostWalking.{Told}
use Rattle.theory.proofs.PostEnding.{walk_end, walk_start}

abbrev nobody : ℕ → Type 0
nobody x = ⊥

-- a walk from i, with f0 finished before
record Trip (out : ℕ → List ℕ) (n : ℕ) (f0 : List ℕ) (i : ℕ) (s d f : List ℕ) : Type 0 where
  walk : Walking out nobody s d f
  post : Post out f
  keep : (y : ℕ) → In y f0 → In y f
  begun : In i d ⊎ In i s
  stacked : (y : ℕ) → In y s → y < n
  nodes : (y : ℕ) → In y f → y < n

-- between two walks
record Rest (out : ℕ → List ℕ) (n : ℕ) (d f : List ℕ) : Type 0 where
  same : (y : ℕ) → In y d → In y f
  back : (y : ℕ) → In y f → In y d
  told : (y : ℕ) → In y f → Told out nobody (λ x. In x d) y
  once : Distinct f
  post : Post out f
  nodes : (y : ℕ) → In y f → y < n

pub in_below : (n x : ℕ) → x < n → In x (below n)
unfolding below
in_below zero x h = absurd (omega arith)
in_below (suc n) x h = go (in_below n x) (ℕ_discrete x n)
  where
    go : (x < n → In x (below n)) → Dec (x ≡ n) → In x (below n ++ (n ∷ []))
    go ih (yes e) = in_right x (below n) (n ∷ []) (inl e)
    go ih (no m) = in_left x (below n) (n ∷ []) (ih (omega arith))

pub below_in : (n x : ℕ) → In x (below n) → x < n
unfolding below
below_in zero x h = absurd h
below_in (suc n) x h = go (below_in n x) (in_cases x (below n) (n ∷ []) h)
  where
    go : (In x (below n) → x < n) → In x (below n) ⊎ In x (n ∷ []) → x < suc n
    go ih (inl i) = let k = ih i in omega arith
    go ih (inr (inl e)) = omega arith
    go ih (inr (inr z)) = absurd z

module _ (out : ℕ → List ℕ) (n : ℕ) (inside : Inside n out) where
  visit_trip : (f0 : List ℕ) (i : ℕ) (v : ℕ) (s d f : List ℕ) (a : Dec (In v d)) (b : Dec (In v f)) → Trip out n f0 i (v ∷ s) d f → Trip out n f0 i (visit out v s d f a b).stack (visit out v s d f a b).disc (visit out v s d f a b).fin
  visit_trip f0 i v s d f (no m) b h =
      record {
        walk = visit_walk out nobody v s d f (no m) b h.walk;
        post = h.post;
        keep = h.keep;
        begun = visit_begun out nobody i v s d f (no m) b h.begun;
        stacked = fresh_nodes out n inside d v (v ∷ s) h.stacked;
        nodes = h.nodes;
      }
  visit_trip f0 i v s d f (yes j) (yes k) h = record {
    walk = visit_walk out nobody v s d f (yes j) (yes k) h.walk;
    post = h.post;
    keep = h.keep;
    begun = visit_begun out nobody i v s d f (yes j) (yes k) h.begun;
    stacked = λ y a. h.stacked y (inr a);
    nodes = h.nodes;
  }
  visit_trip f0 i v s d f (yes j) (no k) h =
      let q = top_of out nobody v s d f h.walk j k in
      record {
        walk = visit_walk out nobody v s d f (yes j) (no k) h.walk;
        post = post_step out nobody (λ x. In x d) (λ x z. z) v s f h.walk.0 q.0 h.walk.1 j k q.1 h.post;
        keep = λ y a. inr (h.keep y a);
        begun = visit_begun out nobody i v s d f (yes j) (no k) h.begun;
        stacked = λ y a. h.stacked y (inr a);
        nodes = λ y. ⊎_elim (λ e. subst (λ z. z < n) (sym e) (h.stacked v (inl refl))) (h.nodes y);
      }

  from_rest : (k : ℕ) → fuel out n ≤ k → (i : ℕ) → i < n → (d f : List ℕ) (c : Dec (In i d)) → Rest out n d f → let x = walk_from out k i d f c in Rest out n x.disc x.fin × ((y : ℕ) → In y f → In y x.fin) × In i x.fin
  unfolding fuel
  from_rest k m i lt d f (yes j) h = (h, λ y a. a, h.same i j)
  from_rest k m i lt d f (no j) h =
      let x = run out k (i ∷ []) d f in
      let start : Trip out n f i (i ∷ []) d f = record {
        walk = ([], walk_start out nobody (λ y. In y d) (i ∷ []) f h.same h.back h.told h.once);
        post = h.post;
        keep = λ y a. a;
        begun = inr (inl refl);
        stacked = one_node lt;
        nodes = h.nodes;
      } in
      let t = run_keeps out (Trip out n f i) (visit_trip f i) k (i ∷ []) d f start in
      let ends = run_ends out n inside k (i ∷ []) d f start.stacked (omega (arith, weight_most out n d)) in
      let w = t.walk.1 in
      let same : (v : ℕ) → In v x.disc → In v x.fin = walk_end out nobody (λ v. In v x.disc) x.stack x.fin t.walk.0 ends w in (
        record { same = same; back = w.done; told = w.told; once = w.once; post = t.post; nodes = t.nodes },
        t.keep,
        ⊎_elim (λ a. same i a) (λ a. absurd (subst (In i) ends a)) t.begun,
      )

  sweep_rest : (k : ℕ) → fuel out n ≤ k → (is d f : List ℕ) → ((i : ℕ) → In i is → i < n) → Rest out n d f → let x = sweep out k is d f in Rest out n x.disc x.fin × ((y : ℕ) → In y f → In y x.fin) × ((y : ℕ) → In y is → In y x.fin)
  unfolding sweep
  sweep_rest k m [] d f lt h = (h, λ y a. a, λ y z. absurd z)
  sweep_rest k m (i ∷ is) d f lt h =
      let x = walk_from out k i d f (in? i d) in
      let one = from_rest k m i (lt i (inl refl)) d f (in? i d) h in
      let all = sweep_rest k m is x.disc x.fin (λ y a. lt y (inr a)) one.0 in
      (all.0, λ y a. all.1 y (one.1 y a), λ y. ⊎_elim (λ e. all.1 y (in_cast x.fin (sym e) one.2)) (all.2 y))

pub sweep_finishes_in_post_order : SweepFinishesInPostOrder
sweep_finishes_in_post_order out n inside =
    let none : Rest out n [] [] = record {
      same = λ y z. z;
      back = λ y z. z;
      told = λ y z. absurd z;
      once = tt;
      post = tt;
      nodes = λ y z. absurd z;
    } in
    let all = sweep_rest out n inside (fuel out n) (omega arith) (below n) [] [] (below_in n) none in
    (all.0.once, all.0.post, λ x h. all.2 x (in_below n x h), all.0.nodes)
