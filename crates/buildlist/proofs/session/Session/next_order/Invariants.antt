-- Each line that is read leaves less of the file.
use Rattle.std.proofs.Common.{◌≤◌}
use Rattle.buildlist.specs.Ahead.{ahead}
use Rattle.buildlist.proofs.session.Session.next_order.Given as goal

abbrev pub invariant-loop-line : goal.invariant-loop-line
invariant-loop-line l = ahead l.self ≤ ahead l.initial.self

abbrev pub decreases-loop-line : goal.decreases-loop-line
decreases-loop-line l = ahead l.self
