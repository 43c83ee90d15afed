-- From call to call the draft has the edges of the four-node graph.
use Rattle.std.proofs.Common.{◌≡◌, length, refl, ap, ◌∙◌, arith}
use Rattle.index.specs.declared.records.FeatureEdge.TheVariants.{NamedFeature, DependenciesSection}
use Rattle.index.specs.Records.{read_feature_edge}
use Rattle.draft.specs.State.{State, edges_of}
use Rattle.clients.specs.FourNodes.{slash}
use Rattle.clients.proofs.Drawing.{begun, paired, adds}
use Rattle.clients.proofs.four_nodes.lay_four_nodes.Goals as goal

pub returns : goal.returns
returns c =
    let long : length c.new-draft.result.words ≡ 32 = let e = ap (λ (x : State). length x.words) c.new-draft.ensures in omega arith in
    let b = begun _ _ _ long c.set_up.ensures in
    let p = paired _ _ 7 _ _ c.new.ensures b c.add_pair.ensures in
    let x = adds NamedFeature _ _ 0 1 0 _ refl c.new-2.ensures c.new-3.ensures (omega arith) (omega arith) (omega arith) _ _ _ _ p c.add_edge.ensures in
    let y = adds slash _ _ 1 3 1 _ refl c.new-4.ensures c.new-5.ensures (omega arith) (omega arith) (omega arith) _ _ _ _ x c.add_edge-2.ensures in
    let z = adds (DependenciesSection 1) _ _ 0 2 2 _ refl c.new-6.ensures c.new-7.ensures (omega arith) (omega arith) (omega arith) _ _ _ _ y c.add_edge-3.ensures in
    let end = c.finish.ensures in
    record { nodes = ap (λ (x : State). x.nodes) end ∙ z.nodes; edges = ap (edges_of read_feature_edge) end ∙ z.laid; pairs = ap (λ (x : State). x.pairs) end ∙ z.pairs }
