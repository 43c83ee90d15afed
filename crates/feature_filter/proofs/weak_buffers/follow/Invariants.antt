-- The entries before the link are dealt with.
use Rattle.std.proofs.Common.{◌≡◌, length}
use Rattle.buffers.proofs.Following.{Following, left_to}
use Rattle.feature_filter.proofs.weak_buffers.follow.Given as goal

abbrev pub invariant-loop-link : goal.invariant-loop-link
invariant-loop-link g l = record {
  same : g.V.Verdict.accepts l.verdict ≡ g.V.Verdict.accepts l.initial.verdict;
  so_far : Following (g.V.Verdict.accepts l.initial.verdict) l.lying l.index l.hand l.link l.out;
}

abbrev pub decreases-loop-link : goal.decreases-loop-link
decreases-loop-link g l = left_to (length l.lying) l.link
