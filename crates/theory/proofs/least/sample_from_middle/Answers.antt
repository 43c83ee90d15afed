-- The law is proved in proofs/Sampling.
use Rattle.theory.proofs.Sampling.{from_middle}
use Rattle.theory.proofs.least.sample_from_middle.Goals as goal

pub returns : goal.returns
returns c = from_middle
