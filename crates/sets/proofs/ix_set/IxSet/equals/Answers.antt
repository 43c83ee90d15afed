-- Sets of the same members have the same count and the same words, and the other way round.
use Rattle.std.proofs.Common.{refl, sym, ◌∙◌, arith, rules, tests}
use Rattle.std.proofs.lemmas.Iterator.{cases_from_all, YieldsList-from_range}
use Rattle.std.proofs.lemmas.Bool.{eq-eqb}
use Rattle.bits.proofs.Counts.{count_same}
use Rattle.sets.specs.Sets.{member}
use Rattle.sets.proofs.Comparing.{SameWord, OtherWord, same_word, other_word, same_all, true_from_same}
use Rattle.sets.proofs.ix_set.IxSet.equals.Goals as goal

pub returns-then-self-other : goal.returns-then-self-other
returns-then-self-other g c =
    let s = c.args.self.now in
    let t = c.args.other.now in
    let n = c.max-words.result in
    let p = member s in
    let q = member t in
    let tested = cases_from_all _ _ _ (SameWord p q) (OtherWord p q) c.all.ensures.ran (YieldsList-from_range 0 n n refl (omega arith))
    (λ i f k. (search rules, same_word p q i (search rules))) (λ i f k. other_word p q i (search rules)) in (
      same_all p q n _ tested (λ j l. s.within j (omega arith)) (λ j l. t.within j (omega arith)),
      true_from_same p q n _ tested,
    )

pub returns-else-self-other : goal.returns-else-self-other
returns-else-self-other g c =
    let s = c.args.self.now in
    let t = c.args.other.now in (
      λ e. absurd (c.if-self-other.false (search (rules, tests))),
      λ same. eq-eqb s.count t.count (s.counted ∙ count_same (member s) (member t) s.nodes t.nodes same s.within t.within ∙ sym t.counted),
    )
