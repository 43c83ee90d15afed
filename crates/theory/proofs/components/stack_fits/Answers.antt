-- The law is proved in proofs/Rooms.
use Rattle.theory.proofs.Rooms.{stack_fits}
use Rattle.theory.proofs.components.stack_fits.Goals as goal

pub returns : goal.returns
returns c = stack_fits
