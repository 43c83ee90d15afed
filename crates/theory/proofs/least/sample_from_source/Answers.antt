-- The law is proved in proofs/Sampling.
use Rattle.theory.proofs.Sampling.{from_source}
use Rattle.theory.proofs.least.sample_from_source.Goals as goal

pub returns : goal.returns
returns c = from_source
