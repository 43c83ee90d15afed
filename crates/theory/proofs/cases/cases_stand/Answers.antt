-- The table was decided as a whole.
use Rattle.theory.proofs.Deciding.{cases_stand}
use Rattle.theory.proofs.cases.cases_stand.Goals as goal

pub returns : goal.returns
returns c = cases_stand
