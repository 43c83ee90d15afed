-- What is still to come is as it was; the link has moved on.
use Rattle.std.proofs.Common.{◌≡◌, length}
use Rattle.buffers.specs.Buffers.{left}
use Rattle.buffers.proofs.Following.{left_to}
use Rattle.feature_filter.proofs.releases.ReleasedByIterator.next.Given as goal

abbrev pub invariant-loop-self : goal.invariant-loop-self
invariant-loop-self l = left l.self.releases.now.nodes.now l.self.node l.self.link ≡ left l.initial.self.releases.now.nodes.now l.initial.self.node l.initial.self.link

abbrev pub decreases-loop-self : goal.decreases-loop-self
decreases-loop-self l = left_to (length l.self.releases.now.nodes.now) l.self.link
