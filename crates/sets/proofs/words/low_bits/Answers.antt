-- The digits of 2 ^ k - 1 are those below k.
use Rattle.std.proofs.Common.{◌-◌, sym, ap, ◌∙◌, arith}
use Rattle.std.proofs.lemmas.Bool.{lt-ltb}
use Rattle.std.proofs.lemmas.Nat.{one_shl}
use Rattle.bits.specs.Bits.{bit}
use Rattle.bits.proofs.Digits.{low_bits}
use Rattle.sets.proofs.words.low_bits.Goals as goal

pub returns-then-k-ge64 : goal.returns-then-k-ge64
returns-then-k-ge64 c j l = low_bits j 64 ∙ lt-ltb j 64 l ∙ sym (lt-ltb j c.args.k (omega arith))

pub returns-else-k-ge64 : goal.returns-else-k-ge64
returns-else-k-ge64 c j l = ap (λ x. bit (x - 1) j) (one_shl c.args.k 64 (omega arith)) ∙ low_bits j c.args.k
