-- What the view has still to give stays the same while edges are passed over.
use Rattle.std.proofs.Common.{◌≡◌, length, filter}
use Rattle.theory.specs.Edges.{within}
use Rattle.graph.proofs.views.NodeFilteredGraph.next.Given as goal

abbrev pub invariant-loop-edge : goal.invariant-loop-edge
invariant-loop-edge g l =
    filter (within (g.S.NodeSet.has l.self.set)) (g.G.Graph.rest l.self.graph l.c)
    ≡ filter (within (g.S.NodeSet.has l.self.set)) (g.G.Graph.rest l.self.graph l.initial.c)

abbrev pub decreases-loop-edge : goal.decreases-loop-edge
decreases-loop-edge g l = length (g.G.Graph.rest l.self.graph l.c)
