-- A table without entries keeps the invariant.
use Rattle.weak.proofs.Hashing.{empty_hashed}
use Rattle.weak.proofs.table.WeakDependencies.new.Goals as goal

pub invariant_of-result : goal.invariant_of-result
invariant_of-result c = rw (c.new.ensures, c.new-2.ensures) empty_hashed
