-- The first line feed is where a line ends.
use Rattle.std.proofs.Common.{rules}
use Rattle.words.proofs.Runs.{first_from}
use Rattle.words.proofs.places.line_end.Goals as goal

pub returns-clause-first : goal.returns-clause-first
returns-clause-first c = first_from _ _ _ _ (search rules)
