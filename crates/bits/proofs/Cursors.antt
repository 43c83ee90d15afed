-- What a cursor along the words has still to give: as it begins, as it goes on to a later word, where no word is left, and as it
-- gives the lowest number of a word. Assumes nothing.
use Rattle.std.proofs.Common.{◌≡◌, ℕ, suc, ◌+◌, ◌-◌, ◌*◌, ◌/◌, ◌%◌, ◌^◌, ◌<◌, ◌≤◌, Bool, true, false, not, ◌&&◌, eqb, ltb, ◌∷◌, length, sym, ap, ◌∙◌, ap₂, inl, inr, arith}
use mathlib.Core.Bool.{and-true}
use lib.Bits.{bit_xor}
use lib.Count.{count_trailing_zeros}
use Rattle.std.proofs.lemmas.Bool.{eq-eqb, ne_eqb, cases_eq, cases_lt, cases_order, lt-ltb, le-ltb}
use Rattle.bits.specs.Bits.{bit, how_many, listing, pending}
use Rattle.bits.proofs.Digits.{bit_zero, bit_cleared, lowest}
use Rattle.bits.proofs.Counts.{listing_first}

-- the word w stands at row, of the numbers that pass p
abbrev pub Word : (ℕ → Bool) → ℕ → ℕ → Type 0
Word p row w = (k : ℕ) → k < 64 → bit w k ≡ p (row * 64 + k)

module _ (p : ℕ → Bool) where
  here : (row bits n : ℕ) → n / 64 ≡ row → pending p row bits n ≡ bit bits (n % 64)
  here row bits n e = rw (eq-eqb (n / 64) row e)

  elsewhere : (row bits n : ℕ) → (n / 64 ≡ row → ⊥) → pending p row bits n ≡ (ltb row (n / 64) && p n)
  elsewhere row bits n d = rw (ne_eqb (n / 64) row d)

  later : (row bits n : ℕ) → row < n / 64 → pending p row bits n ≡ p n
  later row bits n l = elsewhere row bits n (λ e. omega arith) ∙ rw (lt-ltb row (n / 64) l)

  earlier : (row bits n : ℕ) → n / 64 < row → pending p row bits n ≡ false
  earlier row bits n l = elsewhere row bits n (λ e. omega arith) ∙ rw (le-ltb row (n / 64) (omega arith))

  at_word : (row w n : ℕ) → Word p row w → n / 64 ≡ row → pending p row w n ≡ p n
  at_word row w n is e = here row w n e ∙ is (n % 64) (omega arith) ∙ (let at : row * 64 + n % 64 ≡ n = omega arith in ap p at)

  pub pending_begin : (w n : ℕ) → Word p 0 w → pending p 0 w n ≡ p n
  pending_begin w n is = elim (cases_eq (n / 64) 0) [
    | inl e ↦ at_word 0 w n is e
    | inr d ↦ later 0 w n (omega (arith, d))
  ]

  -- no digit of this word is left
  none_left : (row n : ℕ) → n / 64 ≤ row → pending p row 0 n ≡ false
  none_left row n l = elim (cases_eq (n / 64) row) [
    | inl e ↦ here row 0 n e ∙ bit_zero (n % 64)
    | inr d ↦ earlier row 0 n (omega (arith, d))
  ]

  -- no later number passes
  pub pending_none : (row n : ℕ) → ((k : ℕ) → row < k / 64 → p k ≡ false) → pending p row 0 n ≡ false
  pending_none row n none = elim (cases_lt row (n / 64)) [
    | inl l ↦ later row 0 n l ∙ none n l
    | inr l ↦ none_left row n l
  ]

  -- no number passes from this word up to a later one, which is w
  pub pending_later : (row next w n : ℕ) → row < next → Word p next w → ((k : ℕ) → row < k / 64 → k / 64 < next → p k ≡ false) → pending p next w n ≡ pending p row 0 n
  pending_later row next w n l is none = elim (cases_order (n / 64) next) [
    | inl e ↦ at_word next w n is e ∙ sym (later row 0 n (omega arith))
    | inr (inl b) ↦ earlier next w n b ∙ sym (elim (cases_lt row (n / 64)) [
      | inl a ↦ later row 0 n a ∙ none n a b
      | inr a ↦ none_left row n a
    ])
    | inr (inr b) ↦ later next w n b ∙ sym (later row 0 n (omega arith))
  ]

  -- the lowest digit of `bits` is at k
  module _ (row bits k : ℕ) (some : 0 < bits) (fits : bits < 2 ^ 64) (is : k ≡ count_trailing_zeros 64 bits) where
    small : k < 64
    small = let t = (lowest 64 bits some fits).0 in omega arith

    pub first_least : (n : ℕ) → n < row * 64 + k → pending p row bits n ≡ false
    first_least n l = let b = small in elim (cases_eq (n / 64) row) [
      | inl e ↦ here row bits n e ∙ (lowest 64 bits some fits).2 (n % 64) (omega arith)
      | inr d ↦ earlier row bits n (omega (arith, d))
    ]

    pub first_here : pending p row bits (row * 64 + k) ≡ true
    first_here =
        let b = small in
        let digit : (row * 64 + k) % 64 ≡ k = omega arith in
        here row bits (row * 64 + k) (omega arith) ∙ ap (bit bits) (digit ∙ is) ∙ (lowest 64 bits some fits).1

    same_place : (n : ℕ) → n / 64 ≡ row → eqb (n % 64) k ≡ eqb n (row * 64 + k)
    same_place n e = let b = small in elim (cases_eq (n % 64) k) [
      | inl q ↦ eq-eqb (n % 64) k q ∙ sym (eq-eqb n (row * 64 + k) (omega arith))
      | inr d ↦ ne_eqb (n % 64) k d ∙ sym (ne_eqb n (row * 64 + k) (λ q. d (omega arith)))
    ]

    pub first_without : (x n : ℕ) → x ≡ 2 ^ k → pending p row (bit_xor bits x) n ≡ (pending p row bits n && not (eqb n (row * 64 + k)))
    first_without x n lone = let b = small in elim (cases_eq (n / 64) row) [
      | inl e ↦
          here row (bit_xor bits x) n e ∙ bit_cleared bits x k (n % 64) lone (ap (bit bits) is ∙ (lowest 64 bits some fits).1)
          ∙ ap₂ (λ c d. c && not d) (sym (here row bits n e)) (same_place n e)
      | inr d ↦
          elsewhere row (bit_xor bits x) n d ∙ sym (ap₂ (λ c q. c && not q) (elsewhere row bits n d) (ne_eqb n (row * 64 + k) (λ q. d (omega arith))) ∙ and-true (ltb row (n / 64) && p n))
    ]

-- A cursor that began at r and b, with `remaining` numbers below `count` to give, came to the digits `bits` of the word `row`, and
-- these are not 0. It gives the lowest.
pub record Gives (p : ℕ → Bool) (count r b remaining row bits k bits' : ℕ) : Type 0 where
  pub digit : k < 64
  pub node : row * 64 + k < count
  pub some : 1 ≤ remaining
  pub within : (n : ℕ) → count ≤ n → pending p row bits' n ≡ false
  pub counted : remaining - 1 ≡ how_many (pending p row bits') count
  pub first : listing (pending p r b) count ≡ (row * 64 + k) ∷ listing (pending p row bits') count

pub gives : (p : ℕ → Bool) (count r b remaining row bits k x : ℕ) → ((n : ℕ) → count ≤ n → pending p r b n ≡ false)
    → remaining ≡ how_many (pending p r b) count → ((n : ℕ) → pending p row bits n ≡ pending p r b n)
    → 0 < bits → bits < 2 ^ 64 → k ≡ count_trailing_zeros 64 bits → x ≡ 2 ^ k → Gives p count r b remaining row bits k (bit_xor bits x)
gives p count r b remaining row bits k x within counted same some fits is lone = record {
  digit = small p row bits k some fits is;
  node = node;
  some = omega (arith, counts);
  within = λ n l. first_without p row bits k some fits is x n lone ∙ ap (λ c. c && not (eqb n m)) (same n ∙ within n l);
  counted = omega (arith, counts);
  first = first;
}
  where
    m : ℕ
    m = row * 64 + k

    here : pending p row bits m ≡ true
    here = first_here p row bits k some fits is

    node : m < count
    node = elim (cases_lt m count) [
      | inl l ↦ l
      | inr l ↦ let no : true ≡ false = sym here ∙ same m ∙ within m l in cc
    ]

    first : listing (pending p r b) count ≡ m ∷ listing (pending p row (bit_xor bits x)) count
    first =
        listing_first (pending p r b) (pending p row (bit_xor bits x)) m (λ n l. sym (same n) ∙ first_least p row bits k some fits is n l) (sym (same m) ∙ here)
        (λ n. first_without p row bits k some fits is x n lone ∙ ap (λ c. c && not (eqb n m)) (same n)) count node

    counts : how_many (pending p r b) count ≡ suc (how_many (pending p row (bit_xor bits x)) count)
    counts = ap length first
