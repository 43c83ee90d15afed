-- The members are the indexes so far.
use Rattle.std.proofs.Common.{map, take}
use Rattle.sets.specs.Sets.{IsSetOf}
use Rattle.sets.specs.Making.{among}
use Rattle.sets.proofs.ix_set.IxSet.from_ixs.Given as goal

abbrev pub invariant-loop-ix : goal.invariant-loop-ix
invariant-loop-ix g l = IsSetOf (among (take l.ix-index (map g.S.Ix.IndexType.number l.ixs))) l.nodes l.set
