-- Each order takes at least a line.
use Rattle.std.proofs.Common.{◌≤◌}
use Rattle.buildlist.specs.Ahead.{ahead}
use Rattle.buildlist.proofs.session.Session.next_graph.Given as goal

abbrev pub invariant-loop : goal.invariant-loop
invariant-loop l = ahead l.self ≤ ahead l.initial.self

abbrev pub decreases-loop : goal.decreases-loop
decreases-loop l = ahead l.self
