-- The indexes before those still to come are dealt with; nothing but states and hand-out table changed.
use Rattle.std.proofs.Common.{◌≡◌}
use Rattle.buffers.specs.Buffers.{held_in, left}
use Rattle.buffers.proofs.Telling.{Telling}
use Rattle.feature_filter.proofs.weak_buffers.WeakBuffers.tell.Given as goal

abbrev pub invariant-loop-index : goal.invariant-loop-index
invariant-loop-index g l =
    let acc = g.V.Verdict.accepts l.initial.verdict in
    let it = l.index-iterator in
    record {
      can_next : (goal.iterator-loop-index g).can_next it;
      ends : (goal.iterator-loop-index g).is_finite it;
      same : g.V.Verdict.accepts l.verdict ≡ acc;
      used : l.self.used ≡ l.initial.self.used;
      hold : l.hold ≡ l.initial.hold;
      so_far : Telling acc l.releases.nodes.now l.node l.initial.self.states (held_in acc l.initial.self.states l.initial.self.used l.initial.hold) l.self.states l.hand (left it.releases.now.nodes.now it.node it.link) l.out;
    }
