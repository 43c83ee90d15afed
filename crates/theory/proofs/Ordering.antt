-- Edges run onward: through the components, through post-order, and through what a filter leaves of the order. Assumes nothing.
use Rattle.std.proofs.Common.{◌≡◌, ℕ, Bool, true, ◌⊎◌, List, [], ◌∷◌, ◌++◌, reverse, filter, sym, ap, ◌∙◌, subst, inl, inr, ⊎_elim}
use mathlib.Core.List.{reverse_aux}
use Rattle.std.proofs.lemmas.Bool.{cond_both, and_parts}
use Rattle.theory.specs.Components.{Classes, Components, EdgesRunOnward, Onward, components, flat}
use Rattle.theory.specs.Edges.{Edge, In, within, Distinct}
use Rattle.theory.specs.Graphs.{Sound, Tied}
use Rattle.theory.specs.Listings.{Direction, Forward, Order, OrderRunsOnward, Reverse, order}
use Rattle.theory.specs.PostOrder.{Before, PostOrderSorts}
use Rattle.theory.specs.Reach.{Same, sources, targets}
use Rattle.theory.proofs.Grounds.{components_of_graph, leads_on, source_inside}
use Rattle.theory.proofs.Kept.{filter_keeps, in_kept, kept_in}
use Rattle.theory.proofs.Reaching.{in_cases, in_cast, in_reverse, in_right, reach_one, reverse_distinct, reverse_in, same_sym, same_trans}

before_in : (u w : ℕ) (l : List ℕ) → Before u w l → In u l × In w l
before_in u w [] b = absurd b
before_in u w (x ∷ l) (inl h) = (inl h.0, inr h.1)
before_in u w (x ∷ l) (inr b) = (inr (before_in u w l b).0, inr (before_in u w l b).1)

before_across : (u w : ℕ) (s t : List ℕ) → In u s → In w t → Before u w (s ++ t)
before_across u w [] t i j = absurd i
before_across u w (x ∷ s) t (inl e) j = inl (e, in_right w s t j)
before_across u w (x ∷ s) t (inr i) j = inr (before_across u w s t i j)

before_right : (u w : ℕ) (s t : List ℕ) → Before u w t → Before u w (s ++ t)
before_right u w [] t b = b
before_right u w (x ∷ s) t b = inr (before_right u w s t b)

-- no item of a distinct list is both before and after another
pub not_both : (u w : ℕ) (l : List ℕ) → Distinct l → Before u w l → Before w u l → ⊥
not_both u w [] o a b = a
not_both u w (x ∷ l) o (inl h) (inl k) = o.0 (in_cast l k.0 h.1)
not_both u w (x ∷ l) o (inl h) (inr b) = o.0 (in_cast l h.0 (before_in w u l b).1)
not_both u w (x ∷ l) o (inr a) (inl k) = o.0 (in_cast l k.0 (before_in u w l a).1)
not_both u w (x ∷ l) o (inr a) (inr b) = not_both u w l o.1 a b

-- an edge between two components is named near end first
pub forward : (out : ℕ → List ℕ) (u w : ℕ) → In w (out u) → (Same out u w → ⊥) → (gs : List (List ℕ)) → Classes out gs → Onward out gs → In u (flat gs) → Before u w (flat gs)
forward out u w e n [] c o i = absurd i
forward out u w e n (g ∷ gs) c o i = go (forward out u w e n gs c.1 o.1) (in_cases u g (flat gs) i)
  where
    go : (In u (flat gs) → Before u w (flat gs)) → In u g ⊎ In u (flat gs) → Before u w (g ++ flat gs)
    go ih (inr j) = before_right u w g (flat gs) (ih j)
    go ih (inl j) =
        ⊎_elim
        (λ k. absurd (n (same_trans out u c.0.0 w (same_sym out c.0.0 u (c.0.1 u j)) (c.0.1 w k))))
        (λ k. before_across u w g (flat gs) j k)
        (o.0 u w j e)

pub edges_run_onward : (W : Type 0) → EdgesRunOnward W
edges_run_onward W node bound edges outs ins s t n e i m =
    let c = components_of_graph W node bound edges outs ins s t in
    forward (targets outs) e.source e.target (leads_on s n e i) m (components (targets outs) (sources ins) bound) c.classes c.onward (c.all e.source (source_inside s n e i))

pub post_order_sorts : PostOrderSorts
post_order_sorts out [] g a u w i e n = absurd i
post_order_sorts out (x ∷ f) g a u w (inr i) e n = inr (post_order_sorts out f g.1 a u w i e n)
post_order_sorts out (x ∷ f) g a u w (inl q) e n = go (g.0 w (reach_one (subst (λ z. In w (out z)) q e)))
  where
    go : In w (x ∷ f) ⊎ ((y : ℕ) × (In y (x ∷ f) → ⊥) × Same out x y) → Before u w (x ∷ f)
    go (inl (inl j)) = absurd (n (q ∙ sym j))
    go (inl (inr j)) = inl (q, j)
    go (inr y) = absurd (y.1 (inl (sym (a x y.0 y.2))))

-- what is pushed in order is turned round
before_stack : (u w : ℕ) (l s : List ℕ) → Before u w s → Before u w (reverse_aux l s)
before_stack u w [] s b = b
before_stack u w (x ∷ l) s b = before_stack u w l (x ∷ s) (inr b)

before_pushed : (u w : ℕ) (l s : List ℕ) → In w l → In u s → Before w u (reverse_aux l s)
before_pushed u w [] s i j = absurd i
before_pushed u w (x ∷ l) s (inl e) j = before_stack w u l (x ∷ s) (inl (e, j))
before_pushed u w (x ∷ l) s (inr i) j = before_pushed u w l (x ∷ s) i (inr j)

before_turned : (u w : ℕ) (l s : List ℕ) → Before u w l → Before w u (reverse_aux l s)
before_turned u w [] s b = absurd b
before_turned u w (x ∷ l) s (inl h) = before_pushed u w l (x ∷ s) h.1 (inl h.0)
before_turned u w (x ∷ l) s (inr b) = before_turned u w l (x ∷ s) b

kept_before : (p : ℕ → Bool) (u w : ℕ) (l : List ℕ) → p u ≡ true → p w ≡ true → Before u w l → Before u w (filter p l)
kept_before p u w [] h k b = absurd b
kept_before p u w (x ∷ l) h k (inl q) =
    rw (ap p (sym q.0) ∙ h) (inl (q.0, kept_in p l w q.1 k))
kept_before p u w (x ∷ l) h k (inr b) =
    cond_both (p x) (x ∷ filter p l) (filter p l) (λ zs. Before u w zs) (λ _. inr (kept_before p u w l h k b)) (λ _. kept_before p u w l h k b)

kept_distinct : {X : Type 0} (p : X → Bool) (l : List X) → Distinct l → Distinct (filter p l)
kept_distinct p = filter_keeps Distinct p tt (λ x l o. o.1) (λ x l m o sub k. (λ i. o.0 (sub x i), k))

module _ (W : Type 0) (node : ℕ → Bool) (bound edges : ℕ) (outs ins : ℕ → List (Edge W)) (s : Sound node bound edges outs) (t : Tied outs ins) (p : ℕ → Bool) where
  abbrev all_nodes : List ℕ
  all_nodes = flat (components (targets outs) (sources ins) bound)

  c : Components (targets outs) bound (components (targets outs) (sources ins) bound)
  c = components_of_graph W node bound edges outs ins s t

  once : Distinct (filter p all_nodes)
  once = kept_distinct p all_nodes c.once

  along : (n : ℕ) (e : Edge W) → In e (outs n) → within p e ≡ true → (Same (targets outs) e.source e.target → ⊥) → Before e.source e.target (filter p all_nodes)
  along n e i h m =
      let both = and_parts (p e.source) (p e.target) h in
      kept_before p e.source e.target all_nodes both.0 both.1 (edges_run_onward W node bound edges outs ins s t n e i m)

  order_here : (d : Direction) → Order d p outs ins bound (order d p outs ins bound)
  unfolding order
  order_here Forward = record {
    nodes = λ n i. c.nodes n (in_kept p all_nodes n i).0;
    listed = λ n i. (in_kept p all_nodes n i).1;
    all = λ n lt h. kept_in p all_nodes n (c.all n lt) h;
    once = once;
    onward = λ a e i m.
        let k = in_kept (within p) (outs a) e i in
        let b = along a e k.0 k.1 m in
        (b, not_both e.source e.target (filter p all_nodes) once b);
  }
  order_here Reverse = record {
    nodes = λ n i. c.nodes n (in_kept p all_nodes n (reverse_in (filter p all_nodes) n i)).0;
    listed = λ n i. (in_kept p all_nodes n (reverse_in (filter p all_nodes) n i)).1;
    all = λ n lt h. in_reverse (filter p all_nodes) n (kept_in p all_nodes n (c.all n lt) h);
    once = reverse_distinct (filter p all_nodes) once;
    onward = λ a e i m.
        let k = in_kept (within p) (ins a) e i in
        let b = along e.source e (t.out a e k.0) k.1 (λ q. m (same_sym (targets outs) e.source e.target q)) in
        let b' = before_turned e.source e.target (filter p all_nodes) [] b in
        (b', not_both e.target e.source (reverse (filter p all_nodes)) (reverse_distinct (filter p all_nodes) once) b');
  }

pub order_runs_onward : (W : Type 0) → OrderRunsOnward W
order_runs_onward W node bound edges outs ins s t d p = order_here W node bound edges outs ins s t p d
