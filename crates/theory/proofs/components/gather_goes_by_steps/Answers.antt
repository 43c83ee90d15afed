-- The law is proved in proofs/Steps.
use Rattle.theory.proofs.Steps.{gather_goes_by_steps}
use Rattle.theory.proofs.components.gather_goes_by_steps.Goals as goal

pub returns : goal.returns
returns c = gather_goes_by_steps
