-- The law is proved in proofs/Covering.
use Rattle.theory.proofs.Covering.{links_show_all}
use Rattle.theory.proofs.listings.links_show_all.Goals as goal

pub returns : goal.returns
returns g c = links_show_all _
