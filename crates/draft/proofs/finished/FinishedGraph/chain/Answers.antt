-- A node's head stands for its list; an index that is no node has none.
use Rattle.std.proofs.Common.{arith}
use Rattle.tables.proofs.Reading.{chain_head, chain_none}
use Rattle.draft.proofs.finished.FinishedGraph.chain.Goals as goal

pub returns-then-n-self : goal.returns-then-n-self
returns-then-n-self g c =
    let d = c.self.inside.0.0 in
    rw (← c.self.view_is, c.linked_edge-next.ensures, c.head_place.ensures, c.index-n.ensures)
    (chain_head g.S.Edge.EdgeRecord.held d.words.now d.nodes d.edges c.self.invariant c.args.direction _ (omega arith))

pub returns-else-n-self : goal.returns-else-n-self
returns-else-n-self g c =
    let d = c.self.inside.0.0 in
    rw (← c.self.view_is)
    (chain_none g.S.Edge.EdgeRecord.held d.words.now d.nodes d.edges c.self.invariant c.args.direction _ (omega arith))
