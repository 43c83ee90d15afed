-- A link leads to the next index of the bucket, which is one of the node's or is passed over.
use Rattle.std.proofs.Common.{◌≡◌, ℕ, Some, None, Option, get_or, length, sym, ap, ◌∙◌, arith}
use Rattle.buffers.proofs.Leading.{Stepped, stepped}
use Rattle.feature_filter.specs.declared.releases.ReleasedBy.{ReleasedBy}
use Rattle.feature_filter.proofs.releases.ReleasedByIterator.next.Goals as goal

-- the next link of an iterator at index i
abbrev after : ReleasedBy → ℕ → Option ℕ
after s i = get_or s.releases.now.nexts i None

step : (s : ReleasedBy) (link i : ℕ) → s.link ≡ Some link → i ≡ link → Stepped s.releases.now.nodes.now s.node s.link (after s i) i
step s link i q e = stepped s.releases.now.nodes.now s.node s.releases.now.nexts s.link i s.releases.now.follows (q ∙ ap Some (sym e)) s.inside

pub bounds-self-index : goal.bounds-self-index
bounds-self-index c =
    let t = step c.loop-self.self c.in-Some.link c.from-index.result c.in-Some.is c.from-index.ensures in
    let few = c.loop-self.self.releases.now.few in
    let low = t.low in
    omega arith

pub bounds-self-index-in-Some : goal.bounds-self-index-in-Some
bounds-self-index-in-Some c = (step c.loop-self.self c.in-Some.link c.from-index.result c.in-Some.is c.from-index.ensures).low

pub invariant_of-self : goal.invariant_of-self
invariant_of-self c = record { inside = (step c.loop-self.self c.in-Some.link c.from-index.result c.in-Some.is c.from-index.ensures).inside_next }

pub loop-self-smaller : goal.loop-self-smaller
loop-self-smaller c = (step c.loop-self.self c.in-Some.link c.from-index.result c.in-Some.is c.from-index.ensures).less

pub loop-self-preserved : goal.loop-self-preserved
loop-self-preserved c = sym ((step c.loop-self.self c.in-Some.link c.from-index.result c.in-Some.is c.from-index.ensures).miss c.if-self-index.false) ∙ c.loop-self.invariant

pub returns-then-self-index : goal.returns-then-self-index
returns-then-self-index c =
    let t = step c.loop-self.self c.in-Some.link c.from-index.result c.in-Some.is c.from-index.ensures in
    let first = sym c.loop-self.invariant ∙ t.hit c.if-self-index.true in
    let shorter = ap length first in
    record { steps = first; goes = record { on = λ _. (tt, tt, omega arith); keeps = tt; rests = λ _. tt } }
