-- Two tests of numbers compared 64 numbers at a time, by words. Assumes nothing.
use Rattle.std.proofs.Common.{◌≡◌, ℕ, ◌+◌, ◌*◌, ◌/◌, ◌%◌, ◌^◌, ◌<◌, ◌≤◌, Bool, true, false, eqb, length, get_or, sym, ap, ◌∙◌, subst, inl, inr, zero-add, arith}
use Rattle.std.specs.Bool.{MatchBool}
use Rattle.std.specs.List.{AllWithin, HoldsAt, range_with_len}
use Rattle.std.proofs.lemmas.Bool.{cases_lt, eq-eqb, eqb-true, MatchBool-at_true}
use Rattle.std.proofs.lemmas.Iterator.Search.{true_from_All}
use Rattle.std.proofs.lemmas.List.FromFn.{length-range_with_len, get_or-range_with_len}
use Rattle.bits.specs.Bits.{bit}
use Rattle.bits.proofs.Digits.{same_words}
use Rattle.sets.specs.Sets.{IsWordOf}

module _ (p q : ℕ → Bool) where
  -- of the numbers of word i both pass the same
  abbrev pub SameWord : ℕ → Type 0
  SameWord i = (k : ℕ) → k < 64 → p (i * 64 + k) ≡ q (i * 64 + k)

  abbrev pub OtherWord : ℕ → Type 0
  OtherWord i = SameWord i → ⊥

  -- the answer is whether the two words are equal
  abbrev pub TestsWords : Bool → ℕ → Type 0
  TestsWords answer i = (v : ℕ) × (w : ℕ) × IsWordOf p i v × IsWordOf q i w × (v < 2 ^ 64) × (w < 2 ^ 64) × (answer ≡ eqb v w)

  pub same_word : (i : ℕ) → TestsWords true i → SameWord i
  same_word i (v, w, left, right, _, _, e) k l = sym (left k l) ∙ ap (λ x. bit x k) (eqb-true v w (sym e)) ∙ right k l

  pub other_word : (i : ℕ) → TestsWords false i → OtherWord i
  other_word i (v, w, left, right, v<, w<, e) same =
      let equal : eqb v w ≡ true = eq-eqb v w (same_words 64 v w v< w< (λ k l. left k l ∙ same k l ∙ sym (right k l))) in
      cc

  -- r is whether all of the first n words are the same
  abbrev pub Tested : ℕ → Bool → Type 0
  Tested n r =
      let words = range_with_len 0 n in
      MatchBool r (AllWithin SameWord words 0 (length words)) ((k : ℕ) × (k < length words) × HoldsAt OtherWord words k)

  -- past them neither passes any number
  module _ (n : ℕ) (r : Bool) (tested : Tested n r) where
    pub same_all : ((j : ℕ) → n ≤ j / 64 → p j ≡ false) → ((j : ℕ) → n ≤ j / 64 → q j ≡ false) → r ≡ true → (j : ℕ) → p j ≡ q j
    same_all none none' e j = elim (cases_lt (j / 64) n) [
      | inl l ↦
          let at : j / 64 * 64 + j % 64 ≡ j = omega arith in
          let word : SameWord (j / 64) =
          subst SameWord (get_or-range_with_len 0 n (j / 64) 0 l ∙ zero-add (j / 64)) (MatchBool-at_true _ _ e tested (j / 64) 0 (omega arith) (omega (arith, length-range_with_len 0 n))) in
          sym (ap p at) ∙ word (j % 64) (omega arith) ∙ ap q at
      | inr l ↦ none j l ∙ sym (none' j l)
    ]

    pub true_from_same : ((j : ℕ) → p j ≡ q j) → r ≡ true
    true_from_same same = true_from_All SameWord OtherWord r (range_with_len 0 n) (λ i h d. d h) tested (λ k d l j _. same (get_or (range_with_len 0 n) k d * 64 + j))
