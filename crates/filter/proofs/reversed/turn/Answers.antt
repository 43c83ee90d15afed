-- One edge more is turned.
use Rattle.std.proofs.Common.{◌<◌, length, set, ap, ◌∙◌, arith}
use Rattle.std.proofs.lemmas.List.{get_or_default}
use Rattle.std.proofs.lemmas.List.Edits.{map_over_more}
use Rattle.graph.specs.Meaning.{turned_ref}
use Rattle.filter.proofs.reversed.turn.Goals as goal

pub loop-edge-preserved : goal.loop-edge-preserved
loop-edge-preserved g c =
    let edges = c.loop-edge.edges in
    let i = c.loop-edge.edge-index in
    let low : i < length edges = omega arith in
    ap (set edges i) c.turned.ensures
    ∙ map_over_more turned_ref c.args.edges.now edges i _ (omega arith) c.loop-edge.invariant (get_or_default edges i c.edge-item.result _ low)
