-- A place gives its edge, and the edge's own link the rest of the list.
use Rattle.std.proofs.Common.{◌≡◌, suc, Some, sym, ap, ◌∙◌, subst, arith}
use Rattle.theory.specs.Chains.{from}
use Rattle.theory.specs.Graphs.{Steps}
use Rattle.index.specs.declared.direction.DependencyDirection.TheVariants.{Forward, Reverse}
use Rattle.tables.specs.Table.{edge_at, end_of, next_at}
use Rattle.tables.proofs.Reading.{chain_step, edge_read, next_read}
use Rattle.draft.proofs.finished.FinishedGraphGraph.next.Goals.{in-Forward, in-Reverse}
use Rattle.draft.proofs.finished.FinishedGraphGraph.next.Goals as goal

pub returns : goal.returns
returns g c =
    let d = c.self.inside.0.0 in
    let held = g.S.Edge.EdgeRecord.held in
    let e = c.in_ok-number.number in
    let way = c.args.c.now.direction in
    let step = chain_step held d.words.now d.nodes d.edges c.self.invariant way e (omega arith) in
    let source = c.new.ensures in
    let target = c.new-2.ensures in
    let weight = c.decode.ensures in
    let read = edge_read d.words.now d.nodes e held in
    let is : edge_at held d.words.now d.nodes e ≡ record { source = g.S.Ix.IndexType.number c.new.result; target = g.S.Ix.IndexType.number c.new-2.result; number = e; weight = c.decode.result } = cc in
    let link : next_at way d.words.now d.nodes e ≡ c.match-c.linked_edge = elim c.match-c.branch [
      | in-Forward w ↦ ap (λ x. next_at x d.words.now d.nodes e) w.in-Forward.is ∙ next_read d.words.now d.nodes e Forward ∙ sym w.linked_edge-is
      | in-Reverse w ↦ ap (λ x. next_at x d.words.now d.nodes e) w.in-Reverse.is ∙ next_read d.words.now d.nodes e Reverse ∙ sym w.linked_edge-is
    ] in
    let at = edge_at held d.words.now d.nodes in
    rw (← c.self.view_is, c.in_ok-number.was, c.linked_edge-c.ensures, ← link)
    (subst (λ x. Steps (from (end_of way) at d.edges (suc e)) (Some x) (from (end_of way) at d.edges (next_at way d.words.now d.nodes e))) is step)
