-- The lowest member of the word ahead comes next, and the others stay.
use Rattle.std.proofs.Common.{◌≡◌, ◌∷◌, ℕ, ◌*◌, ◌%◌, ◌^◌, length, sym, refl, ap, subst, arith, rules}
use lib.Bits.{bit_xor}
use lib.Count.{count_trailing_zeros}
use Rattle.std.proofs.lemmas.Nat.{one_shl}
use Rattle.bits.specs.Bits.{listing, pending}
use Rattle.bits.proofs.Digits.{trailing_here}
use Rattle.bits.proofs.Cursors.{gives, Gives}
use Rattle.sets.specs.Ones.{rest, IsAhead}
use Rattle.sets.specs.Sets.{member}
use Rattle.sets.specs.declared.ones.IxOnes.{IxOnes}
use Rattle.sets.proofs.iterate.IxOnesIterator.next.Goals as goal
use Rattle.std.proofs.iter.Next.{firm}

-- the digits left in the word, without the lowest
abbrev left : ℕ → ℕ
left bits = bit_xor bits ((1 * 2 ^ count_trailing_zeros 64 bits) % 2 ^ 64)

it : {S : Type 0} (o : IxOnes S) (row bits : ℕ) → IsAhead o row bits → Gives (member o.set.now) o.set.now.nodes o.row o.bits o.remaining row bits (count_trailing_zeros 64 bits) (left bits)
it o row bits h =
    let s = o.set.now in
    let k = count_trailing_zeros 64 bits in
    gives (member s) s.nodes o.row o.bits o.remaining row bits k ((1 * 2 ^ k) % 2 ^ 64) o.within o.counted h.same h.some h.fits refl
    (one_shl k 64 (trailing_here 64 bits h.some h.fits).0)

pub overflow_sub-self : goal.overflow_sub-self
overflow_sub-self g c = (it c.args.self.now c.in_ok-row.row c.in_ok-row.bits c.in_ok-row.ensures).some

pub invariant_of-self : goal.invariant_of-self
invariant_of-self g c =
    let h = it c.args.self.now c.in_ok-row.row c.in_ok-row.bits c.in_ok-row.ensures in
    record { at = omega (arith, h.node); within = h.within; counted = h.counted }

pub overflow_mul-row : goal.overflow_mul-row
overflow_mul-row g c = omega (arith, (it c.args.self.now c.in_ok-row.row c.in_ok-row.bits c.in_ok-row.ensures).node, c.args.self.now.set.now.few)

pub overflow_add-row : goal.overflow_add-row
overflow_add-row g c = omega (arith, (it c.args.self.now c.in_ok-row.row c.in_ok-row.bits c.in_ok-row.ensures).node, c.args.self.now.set.now.few)

pub returns : goal.returns
returns g c =
    let first = (it c.args.self.now c.in_ok-row.row c.in_ok-row.bits c.in_ok-row.ensures).first in
    record {
      steps = subst (λ n. rest c.args.self.now ≡ n ∷ listing (pending (member c.args.self.now.set.now) c.in_ok-row.row (left c.in_ok-row.bits)) c.args.self.now.set.now.nodes) (sym c.new.ensures) first;
      goes = firm ((tt, tt, (let less = ap length first in omega arith))) (λ h. search rules);
    }
