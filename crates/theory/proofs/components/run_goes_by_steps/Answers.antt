-- The law is proved in proofs/Steps.
use Rattle.theory.proofs.Steps.{run_goes_by_steps}
use Rattle.theory.proofs.components.run_goes_by_steps.Goals as goal

pub returns : goal.returns
returns c = run_goes_by_steps
