-- The edges handed out so far and those that are left to be are as many as the list has; entries in use and edges left to ask
-- about are no more than the list has edges; rule and told nodes stay.
use Rattle.std.proofs.Common.{◌≡◌, ◌+◌, ◌≤◌, length, filter}
use Rattle.theory.specs.Rules.{hands}
use Rattle.filter_clients.proofs.visit.handed_at_first.Given as goal

abbrev pub invariant-loop-edge : goal.invariant-loop-edge
invariant-loop-edge g l =
    let f = g.F.BufferedEdgeFilter in
    let rest = g.G.Graph.rest l.graph l.edge-iterator.cursor in
    let all = g.G.Graph.rest l.graph l.initial.edge-iterator.cursor in
    let out = hands (f.rule l.initial.filter) (f.told l.initial.filter) in
    record {
      can_next : (goal.iterator-loop-edge g).can_next l.edge-iterator;
      ends : (goal.iterator-loop-edge g).is_finite l.edge-iterator;
      graph : l.edge-iterator.graph.now ≡ l.graph;
      fit : f.fit l.filter l.hold;
      rule : f.rule l.filter ≡ f.rule l.initial.filter;
      told : f.told l.filter ≡ f.told l.initial.filter;
      used : f.used l.filter + length rest ≤ length all;
      count : l.count + length (filter out rest) ≡ length (filter out all);
    }
