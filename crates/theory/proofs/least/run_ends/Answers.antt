-- The law is proved in proofs/Ending.
use Rattle.theory.proofs.Ending.{run_ends}
use Rattle.theory.proofs.least.run_ends.Goals as goal

pub returns : goal.returns
returns g c = run_ends
