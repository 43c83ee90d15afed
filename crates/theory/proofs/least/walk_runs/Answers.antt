-- The law is proved in proofs/Stepping.
use Rattle.theory.proofs.Stepping.{walk_runs}
use Rattle.theory.proofs.least.walk_runs.Goals as goal

pub returns : goal.returns
returns g c = walk_runs
