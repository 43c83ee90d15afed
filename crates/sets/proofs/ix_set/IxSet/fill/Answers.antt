-- The word of 64 digits that are set has each of its numbers.
use Rattle.std.proofs.Common.{◌≡◌, true, ◌-◌, ◌^◌, ap, ◌∙◌, rules}
use Rattle.std.proofs.lemmas.Bool.{lt-ltb}
use Rattle.bits.specs.Bits.{bit}
use Rattle.bits.proofs.Digits.{low_bits}
use Rattle.sets.proofs.ix_set.IxSet.fill.Goals as goal

pub returns : goal.returns
returns g c = c.change_words.ensures (λ _. true) (λ i w r a b is e k l. let full : r ≡ 2 ^ 64 - 1 = search rules in ap (λ x. bit x k) full ∙ low_bits k 64 ∙ lt-ltb k 64 l)
