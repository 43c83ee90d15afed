-- Each record takes at least a line.
use Rattle.std.proofs.Common.{◌≤◌}
use Rattle.buildlist.specs.Ahead.{ahead}
use Rattle.buildlist.proofs.session.Session.lay.Given as goal

abbrev pub invariant-loop-order : goal.invariant-loop-order
invariant-loop-order g l = ahead l.self ≤ ahead l.initial.self

abbrev pub decreases-loop-order : goal.decreases-loop-order
decreases-loop-order g l = ahead l.self
