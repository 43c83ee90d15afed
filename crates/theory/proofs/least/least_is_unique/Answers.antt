-- The law is proved in proofs/Leasts.
use Rattle.theory.proofs.Leasts.{least_is_unique}
use Rattle.theory.proofs.least.least_is_unique.Goals as goal

pub returns : goal.returns
returns g c = least_is_unique
