-- How many numbers below a count pass a test, and their list, ascending. Assumes nothing.
use Rattle.std.proofs.Common.{◌≡◌, ℕ, zero, suc, ◌+◌, ◌-◌, ◌/◌, ◌%◌, ◌^◌, ◌<◌, ◌≤◌, Bool, true, false, cond, not, ◌&&◌, ◌||◌, eqb, ◌⊎◌, [], ◌∷◌, ◌++◌, length, sym, refl, ap, ◌∙◌, ap₂, inl, inr, add-zero, add-suc, pow-suc, one-add, arith, length-append}
use mathlib.Core.Bool.{and-true, or-false}
use native.Mathlib.Nat.{pow-zero}
use lib.Count.{ones, ones_step}
use Rattle.std.proofs.lemmas.Bool.{both_ways, cases_eq, cases_lt, eq-eqb, ne_eqb, or_right}
use Rattle.std.proofs.lemmas.List.Elements.{filter-append}
use Rattle.std.proofs.lemmas.List.Sums.{count_by-le-length, length-filter}
use Rattle.theory.specs.PostOrder.{below}
use Rattle.theory.proofs.Kept.{in_kept, kept_in, kept_none, kept_same}
use Rattle.theory.proofs.Sweeping.{below_in, in_below}
use Rattle.theory.proofs.Rooting.{ascending_below, ascending_kept}
use Rattle.bits.specs.Bits.{bit, listing, how_many, Lists}
use Rattle.bits.proofs.Digits.{bit_first, bit_suc}

-- ---- one number more

pub listing_suc : (p : ℕ → Bool) (n : ℕ) → listing p (suc n) ≡ listing p n ++ cond (p n) (n ∷ []) []
unfolding below
listing_suc p n = filter-append p (below n) (n ∷ [])

one : (b : Bool) (n : ℕ) → length (cond b (n ∷ []) []) ≡ cond b 1 0
one true n = refl
one false n = refl

pub count_zero : (p : ℕ → Bool) → how_many p 0 ≡ 0
unfolding below
count_zero p = refl

pub count_suc : (p : ℕ → Bool) (n : ℕ) → how_many p (suc n) ≡ how_many p n + cond (p n) 1 0
count_suc p n = omega (arith, ap length (listing_suc p n), length-append (listing p n) (cond (p n) (n ∷ []) []), one (p n) n)

count_yes : (p : ℕ → Bool) (n : ℕ) → p n ≡ true → how_many p (suc n) ≡ how_many p n + 1
count_yes p n t = count_suc p n ∙ ap (λ b. how_many p n + cond b 1 0) t

count_no : (p : ℕ → Bool) (n : ℕ) → p n ≡ false → how_many p (suc n) ≡ how_many p n
count_no p n f = count_suc p n ∙ ap (λ b. how_many p n + cond b 1 0) f ∙ add-zero (how_many p n)

-- ---- tests that agree

pub listing_ext : (p q : ℕ → Bool) (n : ℕ) → ((k : ℕ) → k < n → p k ≡ q k) → listing p n ≡ listing q n
listing_ext p q n h = kept_same p q (below n) (λ k i. h k (below_in n k i))

pub listing_none : (p : ℕ → Bool) (n : ℕ) → ((k : ℕ) → k < n → p k ≡ false) → listing p n ≡ []
listing_none p n h = kept_none p (below n) (λ k i. h k (below_in n k i))

pub count_ext : (p q : ℕ → Bool) (n : ℕ) → ((k : ℕ) → k < n → p k ≡ q k) → how_many p n ≡ how_many q n
count_ext p q n h = ap length (listing_ext p q n h)

pub count_add : (p : ℕ → Bool) (m n : ℕ) → how_many p (m + n) ≡ how_many p m + how_many (λ k. p (m + k)) n
count_add p m zero = omega (arith, ap (how_many p) (add-zero m), count_zero (λ k. p (m + k)))
count_add p m (suc n) = omega (arith, ap (how_many p) (add-suc m n), count_suc p (m + n), count_add p m n, count_suc (λ k. p (m + k)) n)

pub count_le : (p : ℕ → Bool) (n : ℕ) → how_many p n ≤ n
unfolding below
count_le p n = omega (arith, length-filter p (below n), count_by-le-length p (below n), all n)
  where
    all : (n : ℕ) → length (below n) ≡ n
    all zero = refl
    all (suc n) = omega (arith, length-append (below n) (n ∷ []), all n)

pub count_none : (p : ℕ → Bool) (n : ℕ) → ((k : ℕ) → p k ≡ false) → how_many p n ≡ 0
count_none p n h = ap length (listing_none p n (λ k _. h k))

-- nothing passes from m on
pub count_stop : (p : ℕ → Bool) (m d : ℕ) → ((k : ℕ) → m ≤ k → p k ≡ false) → how_many p (m + d) ≡ how_many p m
count_stop p m zero h = ap (how_many p) (add-zero m)
count_stop p m (suc d) h =
    omega (arith, ap (how_many p) (add-suc m d), count_no p (m + d) (h (m + d) (omega arith)), count_stop p m d h)

pub count_past : (p : ℕ → Bool) (n m : ℕ) → ((k : ℕ) → n ≤ k → p k ≡ false) → n ≤ m → how_many p m ≡ how_many p n
count_past p n m stop l = let e : n + (m - n) ≡ m = omega arith in ap (how_many p) (sym e) ∙ count_stop p n (m - n) stop

pub count_most : (p : ℕ → Bool) (n m : ℕ) → ((k : ℕ) → n ≤ k → p k ≡ false) → how_many p m ≤ n
count_most p n m stop = elim (cases_lt m n) [
  | inl l ↦ omega (arith, count_le p m)
  | inr l ↦ omega (arith, count_past p n m stop l, count_le p n)
]

-- tests that agree, and pass nothing from two counts on
pub count_same : (p q : ℕ → Bool) (m n : ℕ) → ((k : ℕ) → p k ≡ q k) → ((k : ℕ) → m ≤ k → p k ≡ false) → ((k : ℕ) → n ≤ k → q k ≡ false) → how_many p m ≡ how_many q n
count_same p q m n same stop stop' =
    let e : m + n ≡ n + m = omega arith in
    omega (arith, count_stop p m n stop, count_ext p q (m + n) (λ k _. same k), ap (how_many q) e, count_stop q n m stop')

-- ---- one number more in the set

pub count_one : (p q : ℕ → Bool) (i n : ℕ) → i < n → p i ≡ false → q i ≡ true → ((k : ℕ) → (k ≡ i → ⊥) → q k ≡ p k) → how_many q n ≡ how_many p n + 1
count_one p q i zero l f t h = absurd (omega arith)
count_one p q i (suc n) l f t h = elim (cases_eq i n) [
  | inl e ↦
      let same : how_many q n ≡ how_many p n = count_ext q p n (λ k b. h k (λ x. omega arith)) in
      omega (arith, count_yes q n (ap q (sym e) ∙ t), count_no p n (ap p (sym e) ∙ f))
  | inr d ↦
      let less : how_many q n ≡ how_many p n + 1 = count_one p q i n (omega arith) f t h in
      omega (arith, count_suc q n, count_suc p n, ap {B = ℕ} (λ b. cond b 1 0) (h n (λ x. d (sym x))))
]

-- where a number below n does not pass, fewer than n do
pub count_room : (p : ℕ → Bool) (i n : ℕ) → i < n → p i ≡ false → how_many p n < n
count_room p i n l f =
    let q : ℕ → Bool = λ k. p k || eqb k i in
    let more : how_many q n ≡ how_many p n + 1 =
    count_one p q i n l f (or_right (p i) (eqb i i) (eq-eqb i i refl)) (λ k d. ap (λ b. p k || b) (ne_eqb k i d) ∙ or-false (p k)) in
    let most = count_le q n in
    omega arith

-- ---- how many digits of a word are set

digit_is : (x : ℕ) → x < 2 → cond (eqb x 1) 1 0 ≡ x
digit_is zero h = refl
digit_is (suc zero) h = refl
digit_is (suc (suc x)) h = absurd (omega arith)

digit_first : (w : ℕ) → how_many (bit w) 1 ≡ w % 2
digit_first w =
    omega (arith, count_suc (bit w) 0, count_zero (bit w), ap {B = ℕ} (λ b. cond b 1 0) (bit_first w), digit_is (w % 2) (omega arith))

pub ones_count : (k w : ℕ) → w < 2 ^ k → ones w ≡ how_many (bit w) k
unfolding ones
ones_count zero w h = let e : w ≡ 0 = omega (arith, pow-zero 2) in ap ones e ∙ sym (count_zero (bit w))
ones_count (suc k) w h =
    let half : w / 2 < 2 ^ k = omega (arith, pow-suc 2 k) in
    let rest : how_many (bit (w / 2)) k ≡ how_many (λ j. bit w (1 + j)) k =
    count_ext (bit (w / 2)) (λ j. bit w (1 + j)) k (λ j b. sym (ap (bit w) (one-add j) ∙ bit_suc w j)) in
    omega (arith, ones_step w, digit_first w, ones_count k (w / 2) half, rest, ap (how_many (bit w)) (one-add k), count_add (bit w) 1 k)

-- ---- the list, from its front

-- m is the least number that passes p; q is p without it
module _ (p q : ℕ → Bool) (m : ℕ) (least : (k : ℕ) → k < m → p k ≡ false) (here : p m ≡ true) (without : (k : ℕ) → q k ≡ (p k && not (eqb k m))) where
  none : (k : ℕ) → k < m → q k ≡ false
  none k l = without k ∙ ap (λ b. b && not (eqb k m)) (least k l)

  gone : q m ≡ false
  gone = without m ∙ ap₂ (λ b c. b && not c) here (eq-eqb m m refl)

  stays : (k : ℕ) → m < k → q k ≡ p k
  stays k l = without k ∙ ap (λ c. p k && not c) (ne_eqb k m (λ e. omega arith)) ∙ and-true (p k)

  pub listing_first : (n : ℕ) → m < n → listing p n ≡ m ∷ listing q n
  listing_first zero l = absurd (omega arith)
  listing_first (suc n) l = go (λ b. listing_first n b) (cases_lt m n)
    where
      go : (m < n → listing p n ≡ m ∷ listing q n) → (m < n) ⊎ (n ≤ m) → listing p (suc n) ≡ m ∷ listing q (suc n)
      go rest (inl b) =
          rw (listing_suc p n, listing_suc q n, rest b, stays n b)
      go rest (inr b) =
          let e : n ≡ m = omega arith in
          let before : listing p n ≡ [] = listing_none p n (λ k k<n. least k (omega arith)) in
          let without : listing q (suc n) ≡ [] =
          listing_none q (suc n) (λ k k<n. elim (cases_lt k m) [ inl a ↦ none k a | inr a ↦ let is : k ≡ m = omega arith in ap q is ∙ gone ]) in
          rw (without, listing_suc p n, before, ap p e ∙ here) (ap (λ x. x ∷ []) e)

-- the list names just the numbers that pass
pub listing_lists : (p : ℕ → Bool) (n : ℕ) → ((k : ℕ) → n ≤ k → p k ≡ false) → Lists p (listing p n)
listing_lists p n stop = record {
  ascending = ascending_kept p (below n) (ascending_below n);
  only = λ k i. (in_kept p (below n) k i).1;
  all = λ k t. kept_in p (below n) k (in_below n k (small k t)) t;
}
  where
    small : (k : ℕ) → p k ≡ true → k < n
    small k t = elim (cases_lt k n) [ inl l ↦ l | inr l ↦ absurd (both_ways (p k) (stop k l) t) ]
