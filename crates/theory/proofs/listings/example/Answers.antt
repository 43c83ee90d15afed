-- The law is proved in proofs/Examples.
use Rattle.theory.proofs.Examples.{example}
use Rattle.theory.proofs.listings.example.Goals as goal

pub returns : goal.returns
returns c = example
