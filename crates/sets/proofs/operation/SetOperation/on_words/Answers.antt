-- Each operation, digit by digit.
use Rattle.bits.proofs.Digits.{bit-bit_or, bit-bit_and, bit-bit_xor, bit_less}
use Rattle.sets.proofs.operation.SetOperation.on_words.Goals as goal

pub returns-in-Union : goal.returns-in-Union
returns-in-Union c k = let e = c.in-Union.is in rw e (bit-bit_or c.args.a c.args.b k)

pub returns-in-Intersection : goal.returns-in-Intersection
returns-in-Intersection c k = let e = c.in-Intersection.is in rw e (bit-bit_and c.args.a c.args.b k)

pub returns-in-Difference : goal.returns-in-Difference
returns-in-Difference c k = let e = c.in-Difference.is in rw e (bit_less c.args.a c.args.b k)

pub returns-in-SymmetricDifference : goal.returns-in-SymmetricDifference
returns-in-SymmetricDifference c k = let e = c.in-SymmetricDifference.is in rw e (bit-bit_xor c.args.a c.args.b k)
