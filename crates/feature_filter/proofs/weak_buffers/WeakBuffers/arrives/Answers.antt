-- What becomes of the edge follows from what its index makes of it.
use Rattle.std.proofs.Common.{refl, sym, true≢false, arith, rules}
use Rattle.buffers.proofs.Arriving.{unregistered, arrived}
use Rattle.feature_filter.proofs.weak_buffers.WeakBuffers.arrives.Goals as goal

pub returns-then-index-registered : goal.returns-then-index-registered
returns-then-index-registered c =
    let w = c.requires.weak in
    let a = unregistered _ _ _ _ c.args.edge w.0 w.1.0 c.args.index w.1.1 c.requires.okay c.if-index-registered.true in
    search rules

pub returns-in-Judges : goal.returns-in-Judges
returns-in-Judges c =
    let w = c.requires.weak in
    let room = c.requires.room in
    let a = arrived _ _ _ _ c.args.edge w.0 w.1.0 c.args.index w.1.1 c.requires.okay c.if-index-registered.false _ _ _ _ _ (omega (arith, c.meets.auto.hold)) refl c.meets.ensures _ (λ _. c.in-Judges.is) (λ q. absurd (true≢false q)) in
    search rules

pub returns-in_default : goal.returns-in_default
returns-in_default c =
    let w = c.requires.weak in
    let room = c.requires.room in
    let a = arrived _ _ _ _ c.args.edge w.0 w.1.0 c.args.index w.1.1 c.requires.okay c.if-index-registered.false _ _ _ _ _ (omega (arith, c.meets.auto.hold)) refl c.meets.ensures _ (λ q. absurd (true≢false (sym q))) (λ _. c.in_default.not-Judges) in
    search rules
