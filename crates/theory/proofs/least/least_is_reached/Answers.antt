-- The law is proved in proofs/Existing.
use Rattle.theory.proofs.Existing.{least_is_reached}
use Rattle.theory.proofs.least.least_is_reached.Goals as goal

pub returns : goal.returns
returns g c = least_is_reached
