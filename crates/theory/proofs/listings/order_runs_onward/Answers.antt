-- The law is proved in proofs/Ordering.
use Rattle.theory.proofs.Ordering.{order_runs_onward}
use Rattle.theory.proofs.listings.order_runs_onward.Goals as goal

pub returns : goal.returns
returns g c = order_runs_onward _
