-- The law is proved in proofs/Ordering.
use Rattle.theory.proofs.Ordering.{edges_run_onward}
use Rattle.theory.proofs.components.edges_run_onward.Goals as goal

pub returns : goal.returns
returns g c = edges_run_onward _
