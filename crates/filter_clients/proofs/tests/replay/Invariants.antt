-- The hold table fits the filter, and no more of its entries are in use than edges were asked about.
use Rattle.std.proofs.Common.{◌≤◌}
use Rattle.filter_clients.proofs.tests.replay.Given as goal

abbrev pub invariant-loop-call : goal.invariant-loop-call
invariant-loop-call g l = record {
  can_next : (goal.iterator-loop-call g).can_next l.call-iterator;
  ends : (goal.iterator-loop-call g).is_finite l.call-iterator;
  fit : g.F.BufferedEdgeFilter.fit l.filter l.hold;
  used : g.F.BufferedEdgeFilter.used l.filter ≤ l.asked;
}
