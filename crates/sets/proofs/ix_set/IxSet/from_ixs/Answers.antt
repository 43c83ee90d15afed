-- Each index is a node, so it becomes a member; and nothing else does.
use Rattle.std.proofs.Common.{◌≡◌, ◌<◌, true, ◌&&◌, ◌||◌, eqb, ltb, map, length, get_or, None, sym, ap, ◌∙◌, ap₂, arith}
use mathlib.Core.Bool.{and-true}
use Rattle.std.proofs.lemmas.Bool.{lt-ltb}
use Rattle.std.proofs.lemmas.List.{length-map, get_or-map}
use Rattle.sets.specs.Making.{beyond}
use Rattle.sets.proofs.Given.{all_nodes, among_more}
use Rattle.sets.proofs.ix_set.IxSet.from_ixs.Goals as goal

pub loop-ix-preserved : goal.loop-ix-preserved
loop-ix-preserved g c =
    let number = g.S.Ix.IndexType.number in
    let xs = c.args.ixs.now in
    let i = c.loop-ix.ix-index in
    let x = c.ix-item.result in
    let s = c.loop-ix.set in
    let l : i < length (map number xs) = rw (length-map xs number) c.loop-ix-test.true in
    let is : get_or (map number xs) i 0 ≡ number x = get_or-map number xs i x 0 c.loop-ix-test.true ∙ ap number (sym c.ix-item.is) in
    let none : beyond c.args.nodes (map number xs) ≡ None = sym c.first_beyond.ensures ∙ c.in_default.is in
    let node : ltb (number x) s.nodes ≡ true =
    let below = all_nodes c.args.nodes (map number xs) none i l in
    lt-ltb (number x) s.nodes (omega (arith, is, c.loop-ix.invariant.nodes)) in
    record {
      nodes = c.insert.ensures.set.nodes ∙ c.loop-ix.invariant.nodes;
      members = λ n. c.insert.ensures.set.members n
          ∙ ap₂ (λ a b. a || b) (c.loop-ix.invariant.members n) (ap (λ b. eqb n (number x) && b) node ∙ and-true (eqb n (number x)) ∙ ap (eqb n) (sym is))
          ∙ sym (among_more (map number xs) i n l);
    }
