-- The law is proved in proofs/Walking.
use Rattle.theory.proofs.Walking.{walk_stays_inside}
use Rattle.theory.proofs.least.walk_stays_inside.Goals as goal

pub returns : goal.returns
returns g c = walk_stays_inside
