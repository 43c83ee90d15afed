-- The law is proved in proofs/Stepping.
use Rattle.theory.proofs.Stepping.{walk_does_each_once}
use Rattle.theory.proofs.least.walk_does_each_once.Goals as goal

pub returns : goal.returns
returns g c = walk_does_each_once
