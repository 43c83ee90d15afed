-- The law is proved in proofs/Steps.
use Rattle.theory.proofs.Steps.{show_goes_by_steps}
use Rattle.theory.proofs.listings.show_goes_by_steps.Goals as goal

pub returns : goal.returns
returns g c = show_goes_by_steps _
