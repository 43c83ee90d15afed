-- opposite: the other of the two directions. Assumes nothing.
use Rattle.index.specs.declared.direction.DependencyDirection.{DependencyDirection}
use Rattle.index.specs.declared.direction.DependencyDirection.TheVariants.{Forward, Reverse}

abbrev pub opposite : DependencyDirection → DependencyDirection
opposite Forward = Reverse
opposite Reverse = Forward
