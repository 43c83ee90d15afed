-- The law is proved in proofs/Sampling.
use Rattle.theory.proofs.Sampling.{sample_walk}
use Rattle.theory.proofs.least.sample_walk.Goals as goal

pub returns : goal.returns
returns c = sample_walk
