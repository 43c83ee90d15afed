-- Words that are 0 have no number: the first that is not 0, of the words from a place on, and where there is none.
-- Assumes nothing.
use Rattle.std.proofs.Common.{◌≡◌, ℕ, ◌+◌, ◌-◌, ◌/◌, ◌%◌, ◌<◌, ◌≤◌, Bool, not, false, eqb, List, length, get_or, Some, None, sym, ap, ◌∙◌, inl, inr, arith, get_or-drop, get_or-take}
use Rattle.std.specs.List.{position, slice_range}
use Rattle.std.proofs.lemmas.List.{get_or_past}
use Rattle.std.proofs.lemmas.List.Quantifiers.{position-Some}
use Rattle.std.proofs.lemmas.Bool.{cases_lt, eqb-true, not-false}
use Rattle.bits.specs.Bits.{bit, has}
use Rattle.bits.proofs.Digits.{bit_zero}
use Rattle.sets.proofs.Positions.{position-None}

abbrev pub nonzero : ℕ → Bool
nonzero word = not (eqb word 0)

no_number : (ws : List ℕ) (n : ℕ) → get_or ws (n / 64) 0 ≡ 0 → has ws n ≡ false
no_number ws n e = ap (λ w. bit w (n % 64)) e ∙ bit_zero (n % 64)

-- xs are the words from `next` on
module _ (ws xs : List ℕ) (next : ℕ) (is : xs ≡ slice_range ws next (length ws)) (long : length xs + next ≡ length ws) where
  pub word_at : (k : ℕ) → k < length xs → get_or xs k 0 ≡ get_or ws (next + k) 0
  word_at k l = let room : k < length ws - next = omega arith in rw is (rw (get_or-take, get_or-drop))

  skipped : (n : ℕ) → next ≤ n / 64 → n / 64 - next < length xs → nonzero (get_or xs (n / 64 - next) 0) ≡ false → has ws n ≡ false
  skipped n l k<length zero =
      let k = n / 64 - next in
      let at : next + k ≡ n / 64 = omega arith in
      no_number ws n (ap (λ j. get_or ws j 0) (sym at) ∙ sym (word_at k k<length) ∙ eqb-true (get_or xs k 0) 0 (not-false _ zero))

  pub none_on : position nonzero xs ≡ None → (n : ℕ) → next ≤ n / 64 → has ws n ≡ false
  none_on none n l = elim (cases_lt (n / 64 - next) (length xs)) [
    | inl b ↦ skipped n l b (position-None nonzero xs (n / 64 - next) 0 none b)
    | inr b ↦ no_number ws n (get_or_past ws (n / 64) 0 (omega arith))
  ]

  pub first_on : (k : ℕ) → position nonzero xs ≡ Some k → (n : ℕ) → next ≤ n / 64 → n / 64 < next + k → has ws n ≡ false
  first_on k some n l b =
      let (within, _, before) = position-Some nonzero xs k 0 some in
      skipped n l (omega (arith, within)) (before (n / 64 - next) (omega arith))
