-- Rows of 64-bit words as sets of numbers: a word stored, one number put in, the words counted one after the other.
-- Assumes nothing.
use Rattle.std.proofs.Common.{◌≡◌, ℕ, ◌+◌, ◌-◌, ◌*◌, ◌/◌, ◌%◌, ◌^◌, ◌<◌, ◌≤◌, false, cond, ◌&&◌, ◌||◌, eqb, ltb, ◌⊎◌, List, length, get_or, set, replicate, sym, refl, ap, ◌∙◌, subst, ap₂, inl, inr, arith}
use mathlib.Core.Bool.{and-false, or-false}
use lib.Count.{ones}
use lib.Bits.{bit_or, bit_and}
use Rattle.std.proofs.lemmas.Nat.{and_le_r}
use Rattle.std.proofs.lemmas.Bool.{eq-eqb, ne_eqb, cases_eq, cases_lt, lt-ltb, le-ltb}
use Rattle.std.proofs.lemmas.List.{get_or-set_same, get_or-set_other, get_or_past, get_or-replicate, length-replicate}
use Rattle.bits.specs.Bits.{bit, has, how_many}
use Rattle.bits.proofs.Digits.{bit-bit_or, bit-bit_and, bit_lone, bit_zero}
use Rattle.bits.proofs.Counts.{count_ext, count_add, count_stop, count_one, ones_count}

-- ---- one word of a row

-- the number of word i and digit k
pub word_has : (ws : List ℕ) (i k : ℕ) → k < 64 → bit (get_or ws i 0) k ≡ has ws (i * 64 + k)
word_has ws i k l =
    let q : (i * 64 + k) / 64 ≡ i = omega arith in
    let r : (i * 64 + k) % 64 ≡ k = omega arith in
    sym (ap₂ (λ x y. bit (get_or ws x 0) y) q r)

has_set_here : (ws : List ℕ) (i w n : ℕ) → i < length ws → n / 64 ≡ i → has (set ws i w) n ≡ bit w (n % 64)
has_set_here ws i w n l e = ap (λ j. bit (get_or (set ws i w) j 0) (n % 64)) e ∙ ap (λ x. bit x (n % 64)) (get_or-set_same ws i w 0 l)

has_set_there : (ws : List ℕ) (i w n : ℕ) → (n / 64 ≡ i → ⊥) → has (set ws i w) n ≡ has ws n
has_set_there ws i w n d = ap (λ x. bit x (n % 64)) (get_or-set_other ws i (n / 64) w 0 d)

pub has_zeros : (m n : ℕ) → has (replicate m 0) n ≡ false
has_zeros m n = go (cases_lt (n / 64) m)
  where
    go : ((n / 64) < m) ⊎ (m ≤ (n / 64)) → has (replicate m 0) n ≡ false
    go (inl l) = ap (λ x. bit x (n % 64)) (get_or-replicate m (n / 64) 0 0 l) ∙ bit_zero (n % 64)
    go (inr l) = ap (λ x. bit x (n % 64)) (get_or_past (replicate m 0) (n / 64) 0 (rw length-replicate l)) ∙ bit_zero (n % 64)

-- ---- a row in three parts: before the word i, that word, and the rest

parts : (ws : List ℕ) (i n : ℕ) → get_or ws i 0 < 2 ^ 64
    → how_many (has ws) (i * 64 + (64 + n)) ≡ how_many (has ws) (i * 64) + (ones (get_or ws i 0) + how_many (λ k. has ws (i * 64 + (64 + k))) n)
parts ws i n fits =
    let w = get_or ws i 0 in
    let word : how_many (λ k. has ws (i * 64 + k)) 64 ≡ ones w =
    count_ext (λ k. has ws (i * 64 + k)) (bit w) 64 (λ k b. sym (word_has ws i k b)) ∙ sym (ones_count 64 w fits) in
    omega (arith, count_add (has ws) (i * 64) (64 + n), count_add (λ k. has ws (i * 64 + k)) 64 n, word)

-- nothing stands at or beyond n
abbrev pub Below : List ℕ → ℕ → Type 0
Below ws n = (k : ℕ) → n ≤ k → has ws k ≡ false

-- the digits of a word that stands at i, of a set below n
abbrev pub Low : ℕ → ℕ → ℕ → Type 0
Low w i n = (j : ℕ) → j < 64 → bit w j ≡ ltb j (n - i * 64)

whole : (ws : List ℕ) (i n : ℕ) → get_or ws i 0 < 2 ^ 64 → Below ws n
    → how_many (has ws) n ≡ how_many (has ws) (i * 64) + (ones (get_or ws i 0) + how_many (λ k. has ws (i * 64 + (64 + k))) n)
whole ws i n fits h =
    let d = i * 64 + 64 in
    let long : n + d ≡ i * 64 + (64 + n) = omega arith in
    sym (count_stop (has ws) n d h) ∙ ap (how_many (has ws)) long ∙ parts ws i n fits

-- a word has no more digits set than the row has numbers
pub word_room : (ws : List ℕ) (i n old count : ℕ) → old ≡ get_or ws i 0 → old < 2 ^ 64 → Below ws n → count ≡ how_many (has ws) n → ones old ≤ count
word_room ws i n old count is fits h counted =
    let a = whole ws i n (subst (λ x. x < 2 ^ 64) is fits) h in
    let o : ones old ≡ ones (get_or ws i 0) = ap ones is in
    omega arith

-- ---- a word stored

-- the word w, cut by m to numbers below n, is stored at i
pub record Cut (ws : List ℕ) (i w m n : ℕ) : Type 0 where
  pub inside : i < length ws
  pub fits : m < 2 ^ 64
  pub low : Low m i n

module _ {ws : List ℕ} {i w m n : ℕ} (h : Cut ws i w m n) where
  cut : (k : ℕ) → k / 64 ≡ i → bit (bit_and w m) (k % 64) ≡ (bit w (k % 64) && ltb k n)
  cut k e = bit-bit_and w m (k % 64) ∙ ap (λ b. bit w (k % 64) && b) (h.low (k % 64) (omega arith) ∙ elim (cases_lt k n) [
    | inl b ↦ lt-ltb (k % 64) (n - i * 64) (omega arith) ∙ sym (lt-ltb k n b)
    | inr b ↦ le-ltb (k % 64) (n - i * 64) (omega arith) ∙ sym (le-ltb k n b)
  ])

  pub stored_here : (k : ℕ) → k / 64 ≡ i → has (set ws i (bit_and w m)) k ≡ (bit w (k % 64) && ltb k n)
  stored_here k e = has_set_here ws i (bit_and w m) k h.inside e ∙ cut k e

  pub stored_there : (k : ℕ) → (k / 64 ≡ i → ⊥) → has (set ws i (bit_and w m)) k ≡ has ws k
  stored_there k d = has_set_there ws i (bit_and w m) k d

  pub stored_has : (k : ℕ) → has (set ws i (bit_and w m)) k ≡ cond (eqb (k / 64) i) (bit w (k % 64) && ltb k n) (has ws k)
  stored_has k = elim (cases_eq (k / 64) i) [
    | inl e ↦ rw (eq-eqb (k / 64) i e) (stored_here k e)
    | inr d ↦ rw (ne_eqb (k / 64) i d) (stored_there k d)
  ]

  pub stored_below : Below ws n → Below (set ws i (bit_and w m)) n
  stored_below below k g = elim (cases_eq (k / 64) i) [
    | inl e ↦ stored_here k e ∙ ap (λ b. bit w (k % 64) && b) (le-ltb k n g) ∙ and-false (bit w (k % 64))
    | inr d ↦ stored_there k d ∙ below k g
  ]

  front : how_many (has (set ws i (bit_and w m))) (i * 64) ≡ how_many (has ws) (i * 64)
  front = count_ext (has (set ws i (bit_and w m))) (has ws) (i * 64) (λ k q. has_set_there ws i (bit_and w m) k (λ e. omega arith))

  small : bit_and w m < 2 ^ 64
  small = omega (arith, and_le_r w m, h.fits)

  pub stored_count : (old count : ℕ) → old ≡ get_or ws i 0 → old < 2 ^ 64 → Below ws n → count ≡ how_many (has ws) n
      → count - ones old + ones (bit_and w m) ≡ how_many (has (set ws i (bit_and w m))) n
  stored_count old count is fits below counted =
      let v = bit_and w m in
      let ws' = set ws i v in
      let here : get_or ws' i 0 ≡ v = get_or-set_same ws i v 0 h.inside in
      let a = whole ws i n (subst (λ x. x < 2 ^ 64) is fits) below in
      let b = whole ws' i n (subst (λ x. x < 2 ^ 64) (sym here) small) (stored_below below) in
      let before = front in
      let back : how_many (λ k. has ws' (i * 64 + (64 + k))) n ≡ how_many (λ k. has ws (i * 64 + (64 + k))) n =
      count_ext (λ k. has ws' (i * 64 + (64 + k))) (λ k. has ws (i * 64 + (64 + k))) n (λ k q. has_set_there ws i v (i * 64 + (64 + k)) (λ e. omega arith)) in
      let o : ones (get_or ws' i 0) ≡ ones v = ap ones here in
      let o' : ones old ≡ ones (get_or ws i 0) = ap ones is in
      omega arith

  -- the numbers of the words before i are counted, and then those of the word i too
  pub stored_more : (count : ℕ) → count ≡ how_many (has ws) (i * 64) → count + ones (bit_and w m) ≡ how_many (has (set ws i (bit_and w m))) ((i + 1) * 64)
  stored_more count counted =
      let v = bit_and w m in
      let ws' = set ws i v in
      let next : (i + 1) * 64 ≡ i * 64 + 64 = omega arith in
      let word : how_many (λ k. has ws' (i * 64 + k)) 64 ≡ ones v =
      count_ext (λ k. has ws' (i * 64 + k)) (bit v) 64 (λ k b. sym (word_has ws' i k b) ∙ ap (λ x. bit x k) (get_or-set_same ws i v 0 h.inside)) ∙ sym (ones_count 64 v small) in
      ap₂ (λ x y. x + y) (counted ∙ sym front) (sym word) ∙ sym (ap (how_many (has ws')) next ∙ count_add (has ws') (i * 64) 64)

-- ---- one number put in

-- the number n is put in: `old` is its word, x its lone digit
pub record Put (ws : List ℕ) (n old x : ℕ) : Type 0 where
  pub inside : n / 64 < length ws
  pub was : old ≡ get_or ws (n / 64) 0
  pub lone : x ≡ 2 ^ (n % 64)

module _ {ws : List ℕ} {n old x : ℕ} (h : Put ws n old x) where
  same_place : (k : ℕ) → k / 64 ≡ n / 64 → eqb (k % 64) (n % 64) ≡ eqb k n
  same_place k e = elim (cases_eq k n) [
    | inl q ↦ eq-eqb (k % 64) (n % 64) (ap (λ y. y % 64) q) ∙ sym (eq-eqb k n q)
    | inr d ↦ ne_eqb (k % 64) (n % 64) (λ q. d (omega arith)) ∙ sym (ne_eqb k n d)
  ]

  pub put_has : (k : ℕ) → has (set ws (n / 64) (bit_or old x)) k ≡ (has ws k || eqb k n)
  put_has k = elim (cases_eq (k / 64) (n / 64)) [
    | inl e ↦
        has_set_here ws (n / 64) (bit_or old x) k h.inside e ∙ bit-bit_or old x (k % 64)
        ∙ ap₂ (λ a b. a || b) (ap (λ y. bit y (k % 64)) (h.was ∙ ap (λ j. get_or ws j 0) (sym e))) (ap (λ y. bit y (k % 64)) h.lone ∙ bit_lone (n % 64) (k % 64) ∙ same_place k e)
    | inr d ↦
        rw (ne_eqb k n (λ q. d (ap (λ y. y / 64) q)), or-false) (has_set_there ws (n / 64) (bit_or old x) k d)
  ]

  pub put_below : (m : ℕ) → n < m → Below ws m → Below (set ws (n / 64) (bit_or old x)) m
  put_below m l below k g = put_has k ∙ ap₂ (λ a b. a || b) (below k g) (ne_eqb k n (λ e. omega arith))

  pub put_count : (m : ℕ) → n < m → has ws n ≡ false → how_many (has (set ws (n / 64) (bit_or old x))) m ≡ how_many (has ws) m + 1
  put_count m l f =
      count_one (has ws) (has (set ws (n / 64) (bit_or old x))) n m l f
      (put_has n ∙ ap (λ y. y || eqb n n) f ∙ eq-eqb n n refl)
      (λ k d. put_has k ∙ ap (λ y. has ws k || y) (ne_eqb k n d) ∙ or-false (has ws k))
