-- Each turn deals with one entry more.
use Rattle.std.proofs.Common.{◌≡◌, None, get_or, length, refl, sym, ap, ◌∙◌, arith}
use Rattle.buffers.specs.Rules.{links, wanted}
use Rattle.buffers.specs.Buffers.{Entry, edge_of}
use Rattle.index.specs.declared.records.FeatureEdge.TheVariants.{NamedFeature}
use Rattle.buffers.proofs.Following.{following_start, following_end, Turn, turned}
use Rattle.feature_filter.proofs.weak_buffers.follow.Given.{Over}
use Rattle.feature_filter.proofs.weak_buffers.follow.Goals.{In-Some, After-wants}
use Rattle.feature_filter.proofs.weak_buffers.follow.Goals as goal

-- what a read of the hold table gives where it has no entry
abbrev nothing : Entry
nothing = record { edge = record { source = (0, record {}); target = (0, record {}); number = 0; weight = NamedFeature }; next = None }

-- the turn at an entry, and what is made of its edge
turn : (g : Over) (c : In-Some g) → Turn _ _ _ _ _ _ _ c.in-Some.is c.requires.linked.1 c.loop-link.invariant.so_far (length c.args.hand.now) (get_or c.args.lying.now c.in-Some.place nothing)
turn g c = turned _ _ _ _ _ _ _ c.in-Some.is c.requires.linked.1 c.loop-link.invariant.so_far _ nothing c.requires.room c.loop-link.auto.hand

judged : (g : Over) (c : After-wants g) → wanted (g.V.Verdict.accepts c.args.verdict.now) (links (edge_of (get_or c.args.lying.now c.in-Some.place nothing))) ≡ c.wants.result
judged g c = ap (λ a. wanted a (links (edge_of (get_or c.args.lying.now c.in-Some.place nothing)))) (sym c.loop-link.invariant.same) ∙ sym c.wants.ensures.answer

pub loop-link-init : goal.loop-link-init
loop-link-init g c = record { same = refl; so_far = following_start _ _ _ _ _ c.requires.linked.0 }

pub loop-link-preserved : goal.loop-link-preserved
loop-link-preserved g c =
    let at = goal.at.loop-link-preserved g c in
    record { same = c.wants.ensures.same ∙ c.loop-link.invariant.same; so_far = (turn g at.In-Some).refused (judged g at.After-wants ∙ c.if-wants.false) }

pub loop-link-preserved-then-wants : goal.loop-link-preserved-then-wants
loop-link-preserved-then-wants g c =
    let at = goal.at.loop-link-preserved-then-wants g c in
    record { same = c.wants.ensures.same ∙ c.loop-link.invariant.same; so_far = (turn g at.In-Some).goes_on (judged g at.After-wants ∙ c.if-wants.true) }

pub loop-link-smaller : goal.loop-link-smaller
loop-link-smaller g c = (turn g (goal.at.loop-link-smaller g c).In-Some).less

pub loop-link-smaller-then-wants : goal.loop-link-smaller-then-wants
loop-link-smaller-then-wants g c = (turn g (goal.at.loop-link-smaller-then-wants g c).In-Some).less

pub returns : goal.returns
returns g c =
    let t = following_end _ _ _ _ _ _ c.in_default.is c.loop-link.invariant.so_far in
    record { same = c.loop-link.invariant.same; goes = t.0; counts = t.1 }

pub bounds-hand-out : goal.bounds-hand-out
bounds-hand-out g c =
    let at = goal.at.bounds-hand-out g c in
    let low = (turn g at.In-Some).room (judged g at.After-wants ∙ c.if-wants.true) in
    omega (arith, c.loop-link.auto.hand)
