-- The law is proved in proofs/Rooms.
use Rattle.theory.proofs.Rooms.{gather_fits}
use Rattle.theory.proofs.components.gather_fits.Goals as goal

pub returns : goal.returns
returns c = gather_fits
