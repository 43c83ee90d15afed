-- What a sound graph with tied incoming lists gives the walks: far ends below the count, and incoming lists that are the outgoing ones turned.
-- So its groups are its components. Assumes nothing.
use Rattle.std.proofs.Common.{ℕ, ◌<◌, Bool, List, sym, subst}
use Rattle.theory.specs.Components.{GroupsAreComponents}
use Rattle.theory.specs.Edges.{Edge, In}
use Rattle.theory.specs.Graphs.{Sound, Tied}
use Rattle.theory.specs.Reach.{Inside, Turned, sources, targets}
use Rattle.theory.proofs.Collecting.{groups_are_components}
use Rattle.theory.proofs.Reaching.{in_map, map_in}

module _ {W : Type 0} {node : ℕ → Bool} {bound edges : ℕ} {outs : ℕ → List (Edge W)} (s : Sound node bound edges outs) where
  pub target_in : (u : ℕ) (e : Edge W) → In e (outs u) → In e.target (targets outs u)
  target_in u e i = map_in (λ e. e.target) (outs u) e i

  -- an edge leads from its source to its target
  pub leads_on : (u : ℕ) (e : Edge W) → In e (outs u) → In e.target (targets outs e.source)
  leads_on u e i = target_in e.source e (subst (λ z. In e (outs z)) (sym (s.source u e i)) i)

  pub targets_inside : Inside bound (targets outs)
  targets_inside u w i =
      let e = in_map (λ e. e.target) (outs u) w i in
      subst (λ z. z < bound) e.2 (s.below e.0.target (s.target u e.0 e.1))

  pub source_inside : (u : ℕ) (e : Edge W) → In e (outs u) → e.source < bound
  source_inside u e i = subst (λ z. z < bound) (sym (s.source u e i)) (s.below u (s.from u e i))

  module _ {ins : ℕ → List (Edge W)} (t : Tied outs ins) where
    pub sources_inside : Inside bound (sources ins)
    sources_inside u w i =
        let e = in_map (λ e. e.source) (ins u) w i in
        subst (λ z. z < bound) e.2 (source_inside e.0.source e.0 (t.out u e.0 e.1))

    pub sources_turned : Turned (targets outs) (sources ins)
    sources_turned = (
      λ u w i.
          let e = in_map (λ e. e.target) (outs u) w i in
          let j : In e.0 (ins w) = subst (λ z. In e.0 (ins z)) e.2 (t.back u e.0 e.1) in
          subst (λ z. In z (sources ins w)) (s.source u e.0 e.1) (map_in (λ e. e.source) (ins w) e.0 j),
      λ u w i.
          let e = in_map (λ e. e.source) (ins w) u i in
          let j : In e.0 (outs u) = subst (λ z. In e.0 (outs z)) e.2 (t.out w e.0 e.1) in
          subst (λ z. In z (targets outs u)) (t.target w e.0 e.1) (target_in u e.0 j),
    )

pub components_of_graph : (W : Type 0) → GroupsAreComponents W
components_of_graph W node bound edges outs ins s t =
    groups_are_components (targets outs) (sources ins) bound (targets_inside s) (sources_inside s t) (sources_turned s t)
