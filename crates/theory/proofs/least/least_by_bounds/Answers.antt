-- The law is proved in proofs/Leasts.
use Rattle.theory.proofs.Leasts.{least_by_bounds}
use Rattle.theory.proofs.least.least_by_bounds.Goals as goal

pub returns : goal.returns
returns g c = least_by_bounds
