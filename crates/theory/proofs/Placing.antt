-- Where a pair stands among listed ones, and what a list that grows by one keeps. Assumes nothing.
use Rattle.std.proofs.Common.{◌≡◌, ℕ, zero, suc, ◌+◌, ◌<◌, ◌≤◌, Bool, true, false, cond, not, eqb, ltb, List, [], ◌∷◌, ◌++◌, map, get_or, length, Some, None, Option, sym, refl, ap, ap₂, ◌∙◌, inl, inr, add-one, one-add, arith}
use Rattle.std.specs.Option.{option_map}
use Rattle.std.specs.List.{position, position_or_len, range_with_len}
use Rattle.std.proofs.lemmas.List.FromFn.{get_or-map-range_with_len, length-map-range_with_len, map-range_with_len_more}
use Rattle.std.proofs.lemmas.List.Sums.{fails_before_first, position_or_len_is}
use Rattle.std.proofs.lemmas.Bool.{cond_above, cond_below, eqb-false, ne_eqb, eq-eqb, cases_lt, lt-ltb, le-ltb}
use Rattle.theory.specs.Pairs.{Pair, listed, place}

-- std's list of a function of the index
listed_is : {X : Type 0} (at : ℕ → X) (k : ℕ) → listed at k ≡ map at (range_with_len 0 k)
listed_is at zero = refl
listed_is at (suc k) =
    ap (λ xs. xs ++ at k ∷ []) (listed_is at k) ∙ sym (map-range_with_len_more at 0 k k (omega arith)) ∙ ap (λ n. map at (range_with_len 0 n)) (add-one k)

pub length-listed : {X : Type 0} (at : ℕ → X) (k : ℕ) → length (listed at k) ≡ k
length-listed at k = ap length (listed_is at k) ∙ length-map-range_with_len at 0 k

get_listed : {X : Type 0} (at : ℕ → X) (k i : ℕ) (d : X) → i < k → get_or (listed at k) i d ≡ at i
get_listed at k i d b = ap (λ xs. get_or xs i d) (listed_is at k) ∙ get_or-map-range_with_len at 0 k i i d b (omega arith)

pub listed_same : {X : Type 0} (at bt : ℕ → X) (k : ℕ) → ((j : ℕ) → j < k → bt j ≡ at j) → listed bt k ≡ listed at k
listed_same at bt zero eq = refl
listed_same at bt (suc k) eq =
    let r = listed_same at bt k (λ j b. eq j (omega arith)) in
    let t = eq k (omega arith) in cc

-- one more item comes last
pub listed_more : {X : Type 0} (at bt : ℕ → X) (k : ℕ) (x : X) → ((j : ℕ) → j < k → bt j ≡ at j) → bt k ≡ x → listed bt (k + 1) ≡ listed at k ++ x ∷ []
listed_more at bt k x eq q =
    let s = listed_same at bt k eq in
    let step : listed bt (suc k) ≡ listed at k ++ x ∷ [] = cc in
    ap (listed bt) (add-one k) ∙ step

-- the place of a pair is std's position
abbrev has : ℕ → Pair → Bool
has p x = eqb x.package_edge p

place_is : (p : ℕ) (xs : List Pair) → place p xs ≡ position (has p) xs
place_is p [] = refl
place_is p (x ∷ xs) = here (has p x) (place p xs) (position_or_len (has p) xs) (length xs) (place_is p xs)
  where
    here : (b : Bool) (o : Option ℕ) (n l : ℕ) → o ≡ cond (ltb n l) (Some n) None
        → cond b (Some 0) (option_map suc o) ≡ cond (ltb (cond (not b) (1 + n) 0) (suc l)) (Some (cond (not b) (1 + n) 0)) None
    here true o n l e = rw (lt-ltb 0 (suc l) (omega arith))
    here false o n l e = ap (option_map suc) e ∙ elim (cases_lt n l) [
      | inl less ↦ rw (lt-ltb n l less, lt-ltb (1 + n) (suc l) (omega arith), one-add n)
      | inr more ↦ rw (le-ltb n l more, le-ltb (1 + n) (suc l) (omega arith))
    ]

module _ (at : ℕ → Pair) (k p : ℕ) where
  -- where the pairs before i have other package edges, and i is past the list or has this one, the search ends at i
  ends_at : (i : ℕ) → i ≤ k → ((j : ℕ) → j < i → (at j).package_edge ≡ p → ⊥) → (i < k → (at i).package_edge ≡ p) → place p (listed at k) ≡ cond (ltb i k) (Some i) None
  ends_at i b none here =
      let n = length-listed at k in
      let first : position_or_len (has p) (listed at k) ≡ i =
      position_or_len_is (has p) (listed at k) i (at i) (omega arith)
      (λ j l. ap (has p) (get_listed at k j (at i) (omega arith)) ∙ ne_eqb (at j).package_edge p (none j l))
      (λ l. ap (has p) (get_listed at k i (at i) (omega arith)) ∙ eq-eqb (at i).package_edge p (here (omega arith))) in
      place_is p (listed at k) ∙ ap₂ (λ x l. cond (ltb x l) (Some x) None) first n

  -- a package edge that no listed pair has is not found
  pub place_none : ((j : ℕ) → j < k → (at j).package_edge ≡ p → ⊥) → place p (listed at k) ≡ None
  place_none h = ends_at k (omega arith) h (λ l. absurd (omega arith)) ∙ sym (cond_above k k (Some k) None None (omega arith) refl)

  -- the first listed pair with a package edge is found at its place
  pub place_some : (i : ℕ) → i < k → (at i).package_edge ≡ p → ((j : ℕ) → j < i → (at j).package_edge ≡ p → ⊥) → place p (listed at k) ≡ Some i
  place_some i b q h = ends_at i (omega arith) h (λ _. q) ∙ sym (cond_below i k (Some i) None b)

  -- a package edge that is not found is no listed pair's
  pub none_placed : place p (listed at k) ≡ None → (j : ℕ) → j < k → (at j).package_edge ≡ p → ⊥
  none_placed h j b q =
      let n = length-listed at k in
      let m = position_or_len (has p) (listed at k) in
      elim (cases_lt m (length (listed at k))) [
        | inl less ↦ let found = cond_below m (length (listed at k)) (Some m) None less in let all = place_is p (listed at k) in cc
        | inr more ↦
            let misses = fails_before_first (has p) (listed at k) j (at j) (omega arith) in
            eqb-false (at j).package_edge p (ap (has p) (sym (get_listed at k j (at j) b)) ∙ misses) q
      ]
