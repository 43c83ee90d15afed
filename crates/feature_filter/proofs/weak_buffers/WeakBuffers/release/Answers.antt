-- What the index held goes out along its links, or nothing does.
use Rattle.std.proofs.Common.{length, refl, sym, ap, ◌∙◌, arith, rules}
use Rattle.buffers.proofs.Releasing.{told_frees, told_otherwise}
use Rattle.feature_filter.proofs.weak_buffers.WeakBuffers.release.Goals as goal

pub follow-requires : goal.follow-requires
follow-requires g c =
    let acc = g.V.Verdict.accepts c.args.verdict.now in
    let t = told_frees acc c.args.index c.args.self.now.states c.meets.new.self.states c.args.self.now.used c.meets.new.self.used c.args.hold.now c.meets.new.hold c.meets.result (search rules) _ c.in-Frees.first c.requires.fits refl c.requires.chained c.meets.ensures c.in-Frees.is in
    let whole = ap length t.whole in
    record { linked = t.chain; room = omega (arith, c.requires.room) }

pub returns-in-Frees : goal.returns-in-Frees
returns-in-Frees g c =
    let acc = g.V.Verdict.accepts c.args.verdict.now in
    let t = told_frees acc c.args.index c.args.self.now.states c.meets.new.self.states c.args.self.now.used c.meets.new.self.used c.args.hold.now c.meets.new.hold c.meets.result (search rules) _ c.in-Frees.first c.requires.fits refl c.requires.chained c.meets.ensures c.in-Frees.is in
    let f = c.follow.ensures in
    record {
      same = f.same;
      rests = t.left.same;
      moved = t.left.moved;
      goes = f.goes ∙ t.whole;
      counts = f.counts ∙ ap length t.whole;
    }

pub returns-in-Holds : goal.returns-in-Holds
returns-in-Holds g c =
    let acc = g.V.Verdict.accepts c.args.verdict.now in
    let t = told_otherwise acc c.args.index c.args.self.now.states c.meets.new.self.states c.args.self.now.used c.meets.new.self.used c.args.hold.now c.meets.new.hold c.meets.result (search rules) _ c.requires.fits refl c.requires.chained c.meets.ensures c.in-Holds.is in
    record {
      same = refl;
      rests = t.0.same;
      moved = t.0.moved;
      goes = sym t.1;
      counts = sym (ap length t.1);
    }
