-- The first index of the bucket begins the list.
use Rattle.buffers.proofs.Leading.{begun}
use Rattle.feature_filter.proofs.releases.Releases.of.Goals as goal

pub invariant_of-result : goal.invariant_of-result
invariant_of-result c = record { inside = (begun c.args.self.now.nodes.now c.args.node c.args.self.now.firsts c.args.self.now.starts).0 }

pub returns : goal.returns
returns c = (begun c.args.self.now.nodes.now c.args.node c.args.self.now.firsts c.args.self.now.starts).1
