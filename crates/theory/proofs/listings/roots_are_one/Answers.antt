-- The law is proved in proofs/Rooting.
use Rattle.theory.proofs.Rooting.{roots_are_one}
use Rattle.theory.proofs.listings.roots_are_one.Goals as goal

pub returns : goal.returns
returns g c = roots_are_one _
