-- The word 0 has no number.
use Rattle.std.proofs.Common.{◌≡◌, false, ap, ◌∙◌, rules}
use Rattle.bits.specs.Bits.{bit}
use Rattle.bits.proofs.Digits.{bit_zero}
use Rattle.sets.proofs.ix_set.IxSet.clear.Goals as goal

pub returns : goal.returns
returns g c = c.change_words.ensures (λ _. false) (λ i w r a b is e k l. let zero : r ≡ 0 = search rules in ap (λ x. bit x k) zero ∙ bit_zero k)
