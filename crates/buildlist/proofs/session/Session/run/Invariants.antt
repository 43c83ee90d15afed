-- Each graph takes at least its line.
use Rattle.buildlist.specs.Ahead.{ahead}
use Rattle.buildlist.proofs.session.Session.run.Given as goal

abbrev pub decreases-loop-self : goal.decreases-loop-self
decreases-loop-self l = ahead l.self
