-- Items that are listed by a function that gives none twice are distinct. Assumes nothing.
use Rattle.std.proofs.Common.{◌≡◌, ℕ, zero, suc, ◌<◌, List, [], ◌∷◌, ◌++◌, map, subst, sym, ⊎_elim, inl, inr, arith}
use Rattle.std.proofs.lemmas.List.{map_push}
use Rattle.theory.specs.Edges.{In, Distinct}
use Rattle.theory.specs.Pairs.{listed}
use Rattle.theory.proofs.Reaching.{in_cases}

module _ {X : Type 0} (f : X → ℕ) (at : ℕ → X) where
  -- an item that comes last and is not among those before
  distinct_last : (l : List ℕ) (x : ℕ) → Distinct l → (In x l → ⊥) → Distinct (l ++ x ∷ [])
  distinct_last [] x d n = (λ i. i, tt)
  distinct_last (y ∷ l) x d n =
      (λ i. ⊎_elim d.0 (λ k. ⊎_elim (λ q. n (inl (sym q))) (λ z. z) k) (in_cases y l (x ∷ []) i), distinct_last l x d.1 (λ i. n (inr i)))

  listed_from : (k x : ℕ) → In x (map f (listed at k)) → (j : ℕ) × (j < k) × (x ≡ f (at j))
  listed_from zero x i = absurd i
  listed_from (suc k) x i =
      ⊎_elim (λ a. let (j, l, e) = listed_from k x a in (j, omega arith, e)) (λ b. ⊎_elim (λ q. (k, omega arith, q)) (λ z. absurd z) b)
      (in_cases x (map f (listed at k)) (f (at k) ∷ []) (subst (In x) (map_push f (listed at k) (at k)) i))

  pub listed_distinct : (k : ℕ) → ((i j : ℕ) → i < j → j < k → f (at i) ≡ f (at j) → ⊥) → Distinct (map f (listed at k))
  listed_distinct zero apart = tt
  listed_distinct (suc k) apart =
      subst Distinct (sym (map_push f (listed at k) (at k)))
      (distinct_last (map f (listed at k)) (f (at k)) (listed_distinct k (λ i j l b. apart i j l (omega arith)))
      (λ i. let (j, l, e) = listed_from k (f (at k)) i in apart j k l (omega arith) (sym e)))
