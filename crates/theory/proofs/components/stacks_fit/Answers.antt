-- The law is proved in proofs/Rooms.
use Rattle.theory.proofs.Rooms.{stacks_fit}
use Rattle.theory.proofs.components.stacks_fit.Goals as goal

pub returns : goal.returns
returns g c = stacks_fit _
