-- The law is proved in proofs/Existing.
use Rattle.theory.proofs.Existing.{least_exists}
use Rattle.theory.proofs.least.least_exists.Goals as goal

pub returns : goal.returns
returns g c = least_exists
