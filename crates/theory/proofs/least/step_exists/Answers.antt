-- The law is proved in proofs/Ending.
use Rattle.theory.proofs.Ending.{step_exists}
use Rattle.theory.proofs.least.step_exists.Goals as goal

pub returns : goal.returns
returns g c = step_exists
