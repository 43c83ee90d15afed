-- The law is proved in proofs/Stepping.
use Rattle.theory.proofs.Stepping.{step_is_one}
use Rattle.theory.proofs.least.step_is_one.Goals as goal

pub returns : goal.returns
returns g c = step_is_one
