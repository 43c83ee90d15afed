-- Least sets: there is one at most, more initials make it no smaller, and two bounds tell it. Assumes nothing.
use Rattle.std.proofs.Common.{◌≡◌, ℕ, Bool, List, sym, ◌∙◌, inl, inr}
use Rattle.std.proofs.lemmas.Bool.{both_ways, cases_Bool, false_from_ne_true}
use Rattle.theory.specs.Edges.{In}
use Rattle.theory.specs.Rules.{Rule}
use Rattle.theory.specs.Least.{Has, Closed, Inside, IsLeast}

module _ {E : Type 0} (lst : ℕ → List E) (far : E → ℕ) (r : Rule E) where
  pub least_grows : (initials more : List ℕ) (s t : ℕ → Bool) → ((n : ℕ) → In n initials → In n more) → IsLeast lst far r initials s → IsLeast lst far r more t → Inside s t
  least_grows initials more s t sub a b = a.inside t (λ n i. b.has n (sub n i)) b.closed

  pub least_by_bounds : (initials : List ℕ) (s t : ℕ → Bool) → IsLeast lst far r initials s → Has initials t → Closed lst far r t → Inside t s → (n : ℕ) → t n ≡ s n
  least_by_bounds initials s t a h c i n = elim (cases_Bool (t n)) [
    | inl y ↦ y ∙ sym (i n y)
    | inr m ↦ m ∙ sym (false_from_ne_true (s n) (λ y. both_ways (t n) m (a.inside t h c n y)))
  ]

  pub least_is_unique : (initials : List ℕ) (s t : ℕ → Bool) → IsLeast lst far r initials s → IsLeast lst far r initials t → (n : ℕ) → s n ≡ t n
  least_is_unique initials s t a b = least_by_bounds initials t s b a.has a.closed (a.inside t b.has b.closed)
