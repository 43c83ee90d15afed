-- combined: whether the four operations keep a number that is or is not in the one set and in the other.  Assumes nothing.
use Rattle.std.specs.Prelude.{Bool, ◌&&◌, ◌||◌}
use Rattle.sets.specs.declared.operation.SetOperation.{SetOperation}
use Rattle.sets.specs.declared.operation.SetOperation.TheVariants.{Union, Intersection, Difference, SymmetricDifference}
use Rattle.sets.specs.Combining.{and_not, xor}

abbrev pub combined : SetOperation → Bool → Bool → Bool
combined Union a b = a || b
combined Intersection a b = a && b
combined Difference a b = and_not a b
combined SymmetricDifference a b = xor a b
