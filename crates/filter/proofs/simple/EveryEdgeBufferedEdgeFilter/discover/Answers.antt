-- Nothing waits, so nothing is handed out.
use Rattle.std.proofs.Common.{rules}
use Rattle.filter.proofs.Waiting.{none_waits}
use Rattle.filter.proofs.simple.EveryEdgeBufferedEdgeFilter.discover.Goals as goal

pub returns-clause-discovers : goal.returns-clause-discovers
returns-clause-discovers g c = search (rules, none_waits)
