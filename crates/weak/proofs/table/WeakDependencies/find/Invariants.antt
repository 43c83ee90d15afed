-- The pairs past the place were passed, and none of them is the one sought; the walk goes to earlier places.
use Rattle.std.proofs.Common.{Some}
use Rattle.weak.proofs.Hashing.{Passed}
use Rattle.weak.proofs.table.WeakDependencies.find.Given as goal

abbrev pub invariant-loop-at : goal.invariant-loop-at
invariant-loop-at l = Passed l.entries l.package_edge (Some l.at)

abbrev pub decreases-loop-at : goal.decreases-loop-at
decreases-loop-at l = l.at
