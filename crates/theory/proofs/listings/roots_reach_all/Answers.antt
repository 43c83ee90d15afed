-- The law is proved in proofs/Covering.
use Rattle.theory.proofs.Covering.{roots_reach_all}
use Rattle.theory.proofs.listings.roots_reach_all.Goals as goal

pub returns : goal.returns
returns g c = roots_reach_all _
