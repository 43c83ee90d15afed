-- The law is proved in proofs/Rooms.
use Rattle.theory.proofs.Rooms.{links_fit}
use Rattle.theory.proofs.listings.links_fit.Goals as goal

pub returns : goal.returns
returns g c = links_fit _
