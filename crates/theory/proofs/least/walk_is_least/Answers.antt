-- The law is proved in proofs/Walking.
use Rattle.theory.proofs.Walking.{walk_is_least}
use Rattle.theory.proofs.least.walk_is_least.Goals as goal

pub returns : goal.returns
returns g c = walk_is_least
