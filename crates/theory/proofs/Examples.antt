-- The example graph meets the premises of the laws, and its listings are computed. Assumes nothing.
use Rattle.std.proofs.Common.{◌≡◌, ℕ, zero, suc, ◌<◌, true, [], ◌∷◌, sym, refl, ap, ◌∙◌, subst, inl, inr, arith}
use native.Mathlib.Decide.{ℕ_discrete}
use Rattle.std.proofs.lemmas.Bool.{ltb-true, lt-ltb}
use Rattle.theory.specs.Components.{collect, components, gather}
use Rattle.theory.specs.Edges.{Edge, In, Once}
use Rattle.theory.specs.Example.{Example, edge, example_ins, example_outs, is_node, one_edge}
use Rattle.theory.specs.Graphs.{Sound, Tied}
use Rattle.theory.specs.Listings.{Whole, begin, links, order, roots, shows}
use Rattle.theory.specs.PostOrder.{Post, below, either?, fuel, in?, run, sweep, weight}
use Rattle.theory.specs.Reach.{Inside, Leads, Reach, Same, here, more, targets}
use Rattle.theory.proofs.Grounds.{targets_inside}
use Rattle.theory.proofs.Sweeping.{sweep_finishes_in_post_order}

-- what holds of the four edges, where they are listed, holds of all
each_out : (P : ℕ → Edge ℕ → Type 0) → P 0 (edge 0) → P 1 (edge 1) → P 1 (edge 2) → P 2 (edge 3) → (n : ℕ) (e : Edge ℕ) → In e (example_outs n) → P n e
each_out P a b c d zero e (inl q) = subst (P 0) (sym q) a
each_out P a b c d zero e (inr z) = absurd z
each_out P a b c d (suc zero) e (inl q) = subst (P 1) (sym q) b
each_out P a b c d (suc zero) e (inr (inl q)) = subst (P 1) (sym q) c
each_out P a b c d (suc zero) e (inr (inr z)) = absurd z
each_out P a b c d (suc (suc zero)) e (inl q) = subst (P 2) (sym q) d
each_out P a b c d (suc (suc zero)) e (inr z) = absurd z
each_out P a b c d (suc (suc (suc n))) e z = absurd z

each_in : (P : ℕ → Edge ℕ → Type 0) → P 1 (edge 0) → P 0 (edge 1) → P 2 (edge 2) → P 2 (edge 3) → (n : ℕ) (e : Edge ℕ) → In e (example_ins n) → P n e
each_in P a b c d zero e (inl q) = subst (P 0) (sym q) b
each_in P a b c d zero e (inr z) = absurd z
each_in P a b c d (suc zero) e (inl q) = subst (P 1) (sym q) a
each_in P a b c d (suc zero) e (inr z) = absurd z
each_in P a b c d (suc (suc zero)) e (inl q) = subst (P 2) (sym q) c
each_in P a b c d (suc (suc zero)) e (inr (inl q)) = subst (P 2) (sym q) d
each_in P a b c d (suc (suc zero)) e (inr (inr z)) = absurd z
each_in P a b c d (suc (suc (suc n))) e z = absurd z

by_number : (n : ℕ) (e : Edge ℕ) → In e (example_outs n) → e ≡ edge e.number
by_number = each_out (λ n e. e ≡ edge e.number) refl refl refl refl

two_and_three : (f : Edge ℕ) → In f (edge 3 ∷ []) → f.number ≡ 2 → ⊥
two_and_three f (inl q) same = let n = ap (λ e. e.number) q in omega arith
two_and_three f (inr z) same = z

one_and_two : (f : Edge ℕ) → In f (edge 2 ∷ []) → f.number ≡ 1 → ⊥
one_and_two f (inl q) same = let n = ap (λ e. e.number) q in omega arith
one_and_two f (inr z) same = z

once_out : (n : ℕ) → Once (example_outs n)
once_out zero = (λ f z same. z, tt)
once_out (suc zero) = (one_and_two, (λ f z same. z, tt))
once_out (suc (suc zero)) = (λ f z same. z, tt)
once_out (suc (suc (suc n))) = tt

once_in : (n : ℕ) → Once (example_ins n)
once_in zero = (λ f z same. z, tt)
once_in (suc zero) = (λ f z same. z, tt)
once_in (suc (suc zero)) = (two_and_three, (λ f z same. z, tt))
once_in (suc (suc (suc n))) = tt

sound : Sound is_node 3 4 example_outs
sound = record {
  below = λ n h. ltb-true n 3 h;
  source = each_out (λ n e. e.source ≡ n) refl refl refl refl;
  from = each_out (λ n e. is_node n ≡ true) refl refl refl refl;
  target = each_out (λ n e. is_node e.target ≡ true) refl refl refl refl;
  number = each_out (λ n e. e.number < 4) (omega arith) (omega arith) (omega arith) (omega arith);
  unique = λ n m e f i j same. by_number n e i ∙ ap edge same ∙ sym (by_number m f j);
  once = once_out;
  few_nodes = omega arith;
  few_edges = omega arith;
}

tied : Tied example_outs example_ins
tied = record {
  target = each_in (λ n e. e.target ≡ n) refl refl refl refl;
  out = each_in (λ n e. In e (example_outs e.source)) (inl refl) (inl refl) (inr (inl refl)) (inl refl);
  back = each_out (λ n e. In e (example_ins e.target)) (inl refl) (inl refl) (inl refl) (inr (inl refl));
  once = once_in;
}

whole : Whole (targets example_outs) is_node
whole u w q h = last w q.0
  where
    last : (w : ℕ) → Reach (Leads (targets example_outs)) u w → is_node w ≡ true
    last w here = h
    last w (more {b = b} r i) = lt-ltb w 3 (targets_inside sound b w i)

one_edge_inside_lem : Inside 2 one_edge
one_edge_inside_lem zero w (inl e) = omega arith
one_edge_inside_lem zero w (inr z) = absurd z
one_edge_inside_lem (suc n) w z = absurd z

-- nothing leads on from a node past 0
stays : (n y : ℕ) → Reach (Leads one_edge) (suc n) y → suc n ≡ y
stays n y here = refl
stays n y (more {b = b} r i) = absurd (subst (λ z. In y (one_edge z)) (sym (stays n b r)) i)

loopless : (x y : ℕ) → Same one_edge x y → x ≡ y
loopless zero zero q = refl
loopless zero (suc y) q = sym (stays y zero q.1)
loopless (suc x) y q = stays x y q.0

swept : (sweep one_edge (fuel one_edge 2) (below 2) [] []).fin ≡ (0 ∷ 1 ∷ [])
unfolding sweep fuel below run weight in? either? ℕ_discrete
swept = refl

pub example : Example
unfolding components collect gather sweep fuel below run weight in? either? ℕ_discrete roots order links begin shows
example = record {
  sound = sound;
  tied = tied;
  whole = whole;
  groups = refl;
  roots_forward = refl;
  roots_reverse = refl;
  roots_few = refl;
  order_forward = refl;
  order_reverse = refl;
  links_forward = refl;
  links_reverse = refl;
  links_few = refl;
  one_edge_inside = one_edge_inside_lem;
  one_edge_swept = swept;
  one_edge_post = subst (Post one_edge) swept (sweep_finishes_in_post_order one_edge 2 one_edge_inside_lem).1;
  one_edge_loopless = loopless;
}
