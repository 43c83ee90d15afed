-- The law is proved in proofs/Ending.
use Rattle.theory.proofs.Ending.{run_fits}
use Rattle.theory.proofs.least.run_fits.Goals as goal

pub returns : goal.returns
returns g c = run_fits
