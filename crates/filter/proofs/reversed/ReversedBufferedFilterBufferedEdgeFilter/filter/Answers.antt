-- The filter inside is asked about the turned edge.
use Rattle.std.proofs.Common.{map, ap, ◌∙◌}
use Rattle.theory.specs.Edges.{turn}
use Rattle.theory.specs.Rules.{holds}
use Rattle.graph.specs.Meaning.{meant}
use Rattle.filter.proofs.Turned.{held_turned}
use Rattle.filter.proofs.reversed.ReversedBufferedFilterBufferedEdgeFilter.filter.Goals as goal

pub returns-clause-held : goal.returns-clause-held
returns-clause-held g c =
    let f = g.F.BufferedEdgeFilter in
    let s = c.args.self.now.0 in
    let held = f.held s c.args.hold.now in
    let e = ap (meant g.F.Ix.IndexType.number) c.turned.ensures in
    ap (map turn) (c.filter.ensures.held ∙ ap (holds (f.rule s) (f.told s) held) e) ∙ held_turned (f.told s) held (meant g.F.Ix.IndexType.number c.args.edge.now) _
