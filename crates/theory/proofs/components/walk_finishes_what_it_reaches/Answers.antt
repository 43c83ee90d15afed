-- The law is proved in proofs/PostEnding.
use Rattle.theory.proofs.PostEnding.{walk_finishes_what_it_reaches}
use Rattle.theory.proofs.components.walk_finishes_what_it_reaches.Goals as goal

pub returns : goal.returns
returns c = walk_finishes_what_it_reaches
