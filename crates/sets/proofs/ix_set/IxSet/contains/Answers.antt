-- The digit that is tested is the node's.
use Rattle.std.proofs.Common.{◌≡◌, ◌+◌, ◌*◌, ◌/◌, ◌%◌, ap, ◌∙◌, arith}
use Rattle.sets.specs.Sets.{member}
use Rattle.bits.proofs.Digits.{test_is}
use Rattle.sets.proofs.ix_set.IxSet.contains.Goals as goal

pub returns : goal.returns
returns g c =
    let n = c.index-n.result in
    let at : n / 64 * 64 + n % 64 ≡ n = omega arith in
    test_is c.word.result (n % 64) ∙ c.word.ensures (n % 64) (omega arith) ∙ ap (member c.args.self.now) (at ∙ c.index-n.ensures)
