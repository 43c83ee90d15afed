-- The law is proved in proofs/Leasts.
use Rattle.theory.proofs.Leasts.{least_grows}
use Rattle.theory.proofs.least.least_grows.Goals as goal

pub returns : goal.returns
returns g c = least_grows
