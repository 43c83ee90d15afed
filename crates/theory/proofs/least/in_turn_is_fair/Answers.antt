-- The law is proved in proofs/Asking.
use Rattle.theory.proofs.Asking.{in_turn_fair}
use Rattle.theory.proofs.least.in_turn_is_fair.Goals as goal

pub returns : goal.returns
returns g c = in_turn_fair
