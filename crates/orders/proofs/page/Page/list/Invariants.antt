-- What is written, and the text of what is left, make the whole text.
use Rattle.std.proofs.Common.{◌≡◌, ◌++◌}
use Rattle.orders.specs.Wording.{edges_text}
use Rattle.orders.proofs.page.Page.list.Given as goal

abbrev pub invariant-loop-edge : goal.invariant-loop-edge
invariant-loop-edge g l =
    l.self ++ edges_text (g.G.Graph.rest l.edge-iterator.graph.now l.edge-iterator.cursor)
    ≡ l.initial.self ++ edges_text (g.G.Graph.rest l.initial.edge-iterator.graph.now l.initial.edge-iterator.cursor)
