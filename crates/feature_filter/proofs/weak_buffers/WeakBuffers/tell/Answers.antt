-- One index more is dealt with.
use Rattle.std.proofs.Common.{◌+◌, ◌-◌, ◌≤◌, ◌++◌, length, drop, sym, refl, ap, ◌∙◌, subst, arith, length-take, length-drop}
use Rattle.index.specs.declared.direction.DependencyDirection.TheVariants.{Forward}
use Rattle.filter.specs.Filters.{Discovers}
use Rattle.buffers.specs.Rules.{feature_rule}
use Rattle.buffers.specs.Buffers.{told_by, held_in, handed, left, state_of, Chained, Okay}
use Rattle.buffers.proofs.Telling.{telling_start, same_out, indexed, handed_behind, told}
use Rattle.feature_filter.proofs.weak_buffers.WeakBuffers.tell.Goals as goal

pub loop-index-init : goal.loop-index-init
loop-index-init g c =
    let s = c.args.self.now in
    let all = ap (λ it. left it.releases.now.nodes.now it.node it.link) c.into_iter-index-iterator.ensures.into_iter_gives ∙ c.of-index-items.ensures in
    record {
      can_next = tt;
      ends = tt;
      same = refl;
      used = refl;
      hold = refl;
      so_far = telling_start (g.V.Verdict.accepts c.args.verdict.now) c.args.releases.now.nodes.now c.args.node s.states s.used c.args.hold.now _ c.args.hand.now all;
    }

pub release-out-requires : goal.release-out-requires
release-out-requires g c =
    let s = c.args.self.now in
    let l = c.loop-index in
    let inv = l.invariant in
    let i = c.in-Some.index in
    let t = indexed _ _ _ _ c.args.self.now.used c.args.hold.now _ _ _ _ inv.so_far c.in-Some.index _ c.in-Some.ensures.steps c.requires.okay (length l.hand) (omega (arith, c.requires.room, l.auto.hand)) in
    let out = ap length (same_out _ _ l.self.states _ _ _ _ i inv.same inv.used inv.hold) in
    record {
      known = omega (arith, t.low, c.args.releases.now.few);
      fits = omega (arith, inv.used, l.auto.hold, c.requires.okay.fits);
      chained = subst (λ u. Chained i u l.hold (state_of l.self.states i)) (sym inv.used) (subst (λ h. Chained i s.used h (state_of l.self.states i)) (sym inv.hold) t.chained);
      room = omega (arith, t.room, length-take (length l.hand - l.out) (drop l.out l.hand), length-drop l.out l.hand);
    }

pub loop-index-preserved : goal.loop-index-preserved
loop-index-preserved g c =
    let l = c.loop-index in
    let inv = l.invariant in
    let r = c.release-out.ensures in
    let t = indexed _ _ _ _ c.args.self.now.used c.args.hold.now _ _ _ _ inv.so_far c.in-Some.index _ c.in-Some.ensures.steps c.requires.okay (length l.hand) (omega (arith, c.requires.room, l.auto.hand)) in
    let out = same_out _ _ l.self.states _ _ _ _ c.in-Some.index inv.same inv.used inv.hold in
    let few = ap length out in
    let room = t.room in
    let fits : c.release-out.result ≤ length c.release-out.new.hand = omega (arith, r.counts, c.release-out.auto.hand, length-take (length l.hand - l.out) (drop l.out l.hand), length-drop l.out l.hand) in
    record {
      can_next = tt;
      ends = tt;
      same = r.same ∙ inv.same;
      used = r.rests.0 ∙ inv.used;
      hold = r.rests.1 ∙ inv.hold;
      so_far = t.more c.release-out.new.self.states _ _ r.moved
          (handed_behind l.hand c.release-out.new.hand _ l.out c.release-out.result (omega arith) fits ∙ ap (λ v. handed l.out l.hand ++ v) (r.goes ∙ out))
          (ap (λ k. l.out + k) (r.counts ∙ few));
    }

pub returns : goal.returns
returns g c =
    let acc = g.V.Verdict.accepts c.args.verdict.now in
    let s = c.args.self.now in
    let nodes = c.args.releases.now.nodes.now in
    let l = c.loop-index in
    let inv = l.invariant in
    let t = told acc nodes c.args.node s.states s.used c.args.hold.now l.self.states l.hand _ l.out inv.so_far c.in-None.ensures.steps.0 c.requires.okay in
    record {
      same = inv.same;
      okay = subst (λ u. Okay nodes l.self.states u l.hold) (sym inv.used) (subst (Okay nodes l.self.states s.used) (sym inv.hold) t.okay);
      used = inv.used;
      within = t.fits (length c.args.hand.now) c.requires.room;
      discovers = subst (λ held. Discovers (feature_rule acc nodes Forward) c.args.node (told_by nodes s.states) (told_by nodes l.self.states) (held_in acc s.states s.used c.args.hold.now) held (handed l.out l.hand)) (sym (λ j. held_in acc l.self.states (inv.used j) (inv.hold j))) t.all;
    }
