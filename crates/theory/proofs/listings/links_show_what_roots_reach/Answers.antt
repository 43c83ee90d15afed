-- The law is proved in proofs/Linking.
use Rattle.theory.proofs.Linking.{links_show_what_roots_reach}
use Rattle.theory.proofs.listings.links_show_what_roots_reach.Goals as goal

pub returns : goal.returns
returns g c = links_show_what_roots_reach _
