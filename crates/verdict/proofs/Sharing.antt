-- Two masks share a bit exactly if their bitwise and is not 0. Assumes nothing.
use Rattle.std.proofs.Common.{◌≡◌, ℕ, zero, suc, ◌+◌, ◌*◌, ◌/◌, ◌%◌, ◌^◌, ◌<◌, min, not, ◌&&◌, ◌||◌, eqb, ap, ◌∙◌, arith, pow_pos}
use mathlib.Core.Bool.{or-false, or-true}
use lib.Bits.{bit_and, and_step, and_shr, and_lt}
use Rattle.std.proofs.lemmas.Nat.{mod-pow-add}
use Rattle.bits.specs.Bits.{bit}
use Rattle.verdict.specs.Verdicts.{share_below, shares}

-- one bit more of each: x and y are the bits, p is the bit's weight, q what the bits below it come to
joined : (x y p q : ℕ) → x < 2 → y < 2 → 0 < p → not (eqb (min x y * p + q) 0) ≡ (not (eqb q 0) || (eqb x 1 && eqb y 1))
joined zero zero p q a b c = grind (arith, or-false)
joined zero (suc zero) p q a b c = grind (arith, or-false)
joined (suc zero) zero p q a b c = grind (arith, or-false)
joined (suc zero) (suc zero) p q a b c = grind (arith, or-true)
joined (suc (suc x)) y p q a b c = absurd (omega arith)
joined zero (suc (suc y)) p q a b c = absurd (omega arith)
joined (suc zero) (suc (suc y)) p q a b c = absurd (omega arith)

-- the last bit of the bitwise and
last : (a b : ℕ) → bit_and a b % 2 ≡ min (a % 2) (b % 2)
last a b = let e = and_step a b in omega arith

more : (a b k : ℕ) → bit_and a b % 2 ^ suc k ≡ min (a / 2 ^ k % 2) (b / 2 ^ k % 2) * 2 ^ k + bit_and a b % 2 ^ k
more a b k =
    let one : suc k ≡ 1 + k = omega arith in
    ap (λ v. bit_and a b % 2 ^ v) one ∙ mod-pow-add (bit_and a b) 1 k ∙ ap (λ v. (v % 2) * 2 ^ k + bit_and a b % 2 ^ k) (and_shr a b k)
    ∙ ap (λ v. v * 2 ^ k + bit_and a b % 2 ^ k) (last (a / 2 ^ k) (b / 2 ^ k))

below : (a b k : ℕ) → not (eqb (bit_and a b % 2 ^ k) 0) ≡ share_below a b k
unfolding bit
below a b zero = let e : bit_and a b % 1 ≡ 0 = omega arith in ap (λ v. not (eqb v 0)) e
below a b (suc k) =
    ap (λ v. not (eqb v 0)) (more a b k)
    ∙ joined (a / 2 ^ k % 2) (b / 2 ^ k % 2) (2 ^ k) (bit_and a b % 2 ^ k) (omega arith) (omega arith) (pow_pos k)
    ∙ ap (λ v. v || (bit a k && bit b k)) (below a b k)

pub and_shares : (a b : ℕ) → a < 256 → b < 256 → not (eqb (bit_and a b) 0) ≡ shares a b
and_shares a b la lb =
    let small : bit_and a b < 256 = and_lt 8 a b la lb in
    let e : bit_and a b ≡ bit_and a b % 256 = omega arith in ap (λ v. not (eqb v 0)) e ∙ below a b 8
