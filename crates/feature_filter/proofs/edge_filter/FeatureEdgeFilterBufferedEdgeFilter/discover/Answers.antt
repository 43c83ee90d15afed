-- In Reverse nothing waits.
use Rattle.buffers.proofs.Telling.{back_none}
use Rattle.feature_filter.proofs.edge_filter.FeatureEdgeFilterBufferedEdgeFilter.discover.Goals as goal

pub returns-in-Reverse-clause-discovers : goal.returns-in-Reverse-clause-discovers
returns-in-Reverse-clause-discovers g c = let s = c.args.self.now in back_none (g.V.Verdict.accepts s.verdict) s.releases.nodes.now _ _ _ _ c.in-Reverse.is
