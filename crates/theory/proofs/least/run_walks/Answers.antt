-- The law is proved in proofs/Running.
use Rattle.theory.proofs.Running.{run_walks}
use Rattle.theory.proofs.least.run_walks.Goals as goal

pub returns : goal.returns
returns g c = run_walks
