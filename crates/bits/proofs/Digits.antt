-- The binary digits of words, by std's bit_at: of `&`, `|` and `^`, of a lone bit and of the lowest bits; the lowest digit that is
-- set; words of the same digits are equal. Assumes nothing.
use Rattle.std.proofs.Common.{◌≡◌, ℕ, zero, suc, ◌+◌, ◌-◌, ◌/◌, ◌%◌, ◌^◌, ◌<◌, max, min, Bool, true, false, not, ◌&&◌, ◌||◌, eqb, ltb, sym, refl, ap, ◌∙◌, inl, inr, pow-suc, arith}
use native.Mathlib.Nat.{pow-zero}
use lib.Bits.{bit_and, bit_or, bit_xor}
use lib.Count.{count_trailing_zeros, under}
use Rattle.std.specs.Int.{bit_at}
use Rattle.std.proofs.lemmas.Bool.{true≢false, eq-eqb, eqb-true, ne_eqb, cases_eq, cases_lt, lt-ltb, le-ltb}
use Rattle.std.proofs.lemmas.Nat.Bits.{bit_at-lt, bit_at-pow_other, bit_at-pow_same, bit_at-suc, bit_at-zero, bit_at_and, bit_at_lowest, bit_at_ones, bit_at_ones_above, bit_at_or, bit_at_xor, same_from_bits_below, shr_and_one}
use Rattle.bits.specs.Bits.{bit}

-- ---- a digit is 0 or 1

digit : (P : ℕ → Type 0) → P 0 → P 1 → (x : ℕ) → x < 2 → P x
digit P a b zero h = a
digit P a b (suc zero) h = b
digit P a b (suc (suc x)) h = absurd (omega arith)

digits : (P : ℕ → ℕ → Type 0) → P 0 0 → P 0 1 → P 1 0 → P 1 1 → (a b k : ℕ) → P (bit_at a k) (bit_at b k)
digits P p q r s a b k =
    digit (λ x. P x (bit_at b k)) (digit (P 0) p q (bit_at b k) (bit_at-lt b k)) (digit (P 1) r s (bit_at b k) (bit_at-lt b k)) (bit_at a k) (bit_at-lt a k)

bit_is : (w k d : ℕ) → bit_at w k ≡ d → bit w k ≡ eqb d 1
unfolding bit
bit_is w k d e = ap (λ x. eqb x 1) e

-- ---- the digits of two words put together

pub bit-bit_or : (a b k : ℕ) → bit (bit_or a b) k ≡ (bit a k || bit b k)
unfolding bit
bit-bit_or a b k = bit_is (bit_or a b) k _ (bit_at_or a b k) ∙ digits (λ x y. eqb (max x y) 1 ≡ (eqb x 1 || eqb y 1)) refl refl refl refl a b k

pub bit-bit_and : (a b k : ℕ) → bit (bit_and a b) k ≡ (bit a k && bit b k)
unfolding bit
bit-bit_and a b k = bit_is (bit_and a b) k _ (bit_at_and a b k) ∙ digits (λ x y. eqb (min x y) 1 ≡ (eqb x 1 && eqb y 1)) refl refl refl refl a b k

pub bit-bit_xor : (a b k : ℕ) → bit (bit_xor a b) k ≡ ((bit a k && not (bit b k)) || (not (bit a k) && bit b k))
unfolding bit
bit-bit_xor a b k =
    bit_is (bit_xor a b) k _ (bit_at_xor a b k)
    ∙ digits (λ x y. eqb ((x + y) % 2) 1 ≡ ((eqb x 1 && not (eqb y 1)) || (not (eqb x 1) && eqb y 1))) refl refl refl refl a b k

less_bool : (x y : Bool) → ((x && not (x && y)) || (not x && (x && y))) ≡ (x && not y)
less_bool true true = refl
less_bool true false = refl
less_bool false true = refl
less_bool false false = refl

-- the digits of a that b lacks
pub bit_less : (a b k : ℕ) → bit (bit_xor a (bit_and a b)) k ≡ (bit a k && not (bit b k))
bit_less a b k =
    bit-bit_xor a (bit_and a b) k ∙ ap (λ t. (bit a k && not t) || (not (bit a k) && t)) (bit-bit_and a b k) ∙ less_bool (bit a k) (bit b k)

-- ---- single words

pub bit_zero : (k : ℕ) → bit 0 k ≡ false
bit_zero k = bit_is 0 k 0 (bit_at-zero k)

-- what `w >> k & 1 == 1` says
pub test_is : (w k : ℕ) → eqb (bit_and (w / 2 ^ k) 1) 1 ≡ bit w k
test_is w k = sym (bit_is w k _ (sym (shr_and_one w k)))

pub bit_lone : (k j : ℕ) → bit (2 ^ k) j ≡ eqb j k
bit_lone k j = elim (cases_eq j k) [
  | inl e ↦ ap (bit (2 ^ k)) e ∙ bit_is (2 ^ k) k 1 (bit_at-pow_same k) ∙ sym (eq-eqb j k e)
  | inr d ↦ bit_is (2 ^ k) j 0 (bit_at-pow_other k j d) ∙ sym (ne_eqb j k d)
]

-- the word of the lowest k bits
pub low_bits : (j k : ℕ) → bit (2 ^ k - 1) j ≡ ltb j k
low_bits j k = elim (cases_lt j k) [
  | inl l ↦ bit_is (2 ^ k - 1) j 1 (bit_at_ones k j l) ∙ sym (lt-ltb j k l)
  | inr l ↦ bit_is (2 ^ k - 1) j 0 (bit_at_ones_above k j l) ∙ sym (le-ltb j k l)
]

-- ---- the lowest digit, and the rest

pub bit_first : (w : ℕ) → bit w 0 ≡ eqb (w % 2) 1
bit_first w = bit_is w 0 (w % 2) (bit_at_lowest w)

pub bit_suc : (w j : ℕ) → bit w (suc j) ≡ bit (w / 2) j
unfolding bit
bit_suc w j = bit_is w (suc j) _ (bit_at-suc w j)

-- t is below k, and the place of the lowest digit that is set
abbrev pub Lowest : ℕ → ℕ → ℕ → Type 0
Lowest k w t = (t < k) × (bit w t ≡ true) × ((j : ℕ) → j < t → bit w j ≡ false)

lowest_by : (k w t d : ℕ) → w % 2 ≡ d → 0 < w → (0 < w / 2 → Lowest k (w / 2) t) → Lowest (suc k) w (under d t)
lowest_by k w t zero even some half = let h = half (omega arith) in (omega arith, bit_suc w t ∙ h.1, rest h.2)
  where
    rest : ((j : ℕ) → j < t → bit (w / 2) j ≡ false) → (j : ℕ) → j < suc t → bit w j ≡ false
    rest h zero l = bit_first w ∙ ap (λ x. eqb x 1) even
    rest h (suc j) l = bit_suc w j ∙ h j (omega arith)
lowest_by k w t (suc d) odd some half = let one : w % 2 ≡ 1 = omega arith in (omega arith, bit_first w ∙ ap (λ x. eqb x 1) one, λ j l. absurd (omega arith))

pub lowest : (k w : ℕ) → 0 < w → w < 2 ^ k → Lowest k w (count_trailing_zeros k w)
unfolding count_trailing_zeros
lowest zero w some fits = absurd (omega (arith, pow-zero 2))
lowest (suc k) w some fits = lowest_by k w (count_trailing_zeros k (w / 2)) (w % 2) refl some (λ rest. lowest k (w / 2) rest (omega (arith, pow-suc 2 k)))

pub trailing_here : (k w : ℕ) → 0 < w → w < 2 ^ k → (count_trailing_zeros k w < k) × (bit w (count_trailing_zeros k w) ≡ true)
trailing_here k w some fits = let l = lowest k w some fits in (l.0, l.1)

-- `w ^ (1 << k)` where digit k is set: that digit is gone, the others stay
pub bit_cleared : (w x k j : ℕ) → x ≡ 2 ^ k → bit w k ≡ true → bit (bit_xor w x) j ≡ (bit w j && not (eqb j k))
bit_cleared w x k j is t =
    ap (λ y. bit (bit_xor w y) j) is ∙ bit-bit_xor w (2 ^ k) j
    ∙ ap (λ b. (bit w j && not b) || (not (bit w j) && b)) (bit_lone k j) ∙ off (bit w j) (eqb j k) (λ e. ap (bit w) (eqb-true j k e) ∙ t)
  where
    off : (b c : Bool) → (c ≡ true → b ≡ true) → ((b && not c) || (not b && c)) ≡ (b && not c)
    off true true h = refl
    off true false h = refl
    off false true h = sym (h refl)
    off false false h = refl

-- ---- words of the same digits are equal

pub same_words : (k a b : ℕ) → a < 2 ^ k → b < 2 ^ k → ((j : ℕ) → j < k → bit a j ≡ bit b j) → a ≡ b
unfolding bit
same_words k a b h g e =
    same_from_bits_below k a b h g (λ j l. digits (λ x y. eqb x 1 ≡ eqb y 1 → x ≡ y) (λ _. refl) (λ z. absurd (true≢false (sym z))) (λ z. absurd (true≢false z)) (λ _. refl) a b j (e j l))
