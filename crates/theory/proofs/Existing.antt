-- A finite graph has a least set, by a walk, and it is of just the nodes that are reached. Assumes nothing.
use Rattle.std.proofs.Common.{◌≡◌, ℕ, Bool, true, List, [], refl, ap, ◌∙◌, inl, inr, ⊎_elim, arith}
use Rattle.theory.specs.Rules.{Rule, in_turn}
use Rattle.theory.specs.Least.{IsLeast, Finite, Reached}
use Rattle.theory.specs.Least.Reached.{initial, passing, waited}
use Rattle.theory.specs.Walk.{Place, Walks, start, run, order, enough}
use Rattle.theory.proofs.Asking.{in_turn_fair}
use Rattle.theory.proofs.Walking.{walk_within, walk_is_least}
use Rattle.theory.proofs.Running.{run_walks}
use Rattle.theory.proofs.Ending.{run_ends}

module _ {E : Type 0} (lst : ℕ → List E) (far : E → ℕ) (r : Rule E) (initials : List ℕ) where
  -- the rule with its edges let out in turn has the same least set
  abbrev walked : ℕ → Place E
  walked n = run lst far (in_turn r.passes r.waits) (enough lst initials n) (start initials)

  abbrev answers : ℕ → List ℕ
  answers n = order lst far (in_turn r.passes r.waits) (enough lst initials n) (start initials) []

  module _ (n : ℕ) (fin : Finite lst far initials n) where
    walked_ends : (walked n).stack ≡ []
    walked_ends = run_ends lst far (in_turn r.passes r.waits) (in_turn_fair r.passes r.waits) initials n fin (enough lst initials n) (omega arith)

    walked_walks : Walks lst far (in_turn r.passes r.waits) (start initials) (answers n) (walked n)
    walked_walks = run_walks lst far (in_turn r.passes r.waits) initials (enough lst initials n) walked_ends

    walked_least : IsLeast lst far r initials (walked n).seen
    walked_least =
        let l = walk_is_least lst far (in_turn r.passes r.waits) (in_turn_fair r.passes r.waits) initials (answers n) (walked n) walked_walks walked_ends in
        record { has = l.has; closed = l.closed; inside = l.inside }

    pub least_exists : (s : ℕ → Bool) × IsLeast lst far r initials s
    least_exists = ((walked n).seen, walked_least)

    walked_reached : (m : ℕ) → (walked n).seen m ≡ true → Reached lst far r initials m
    walked_reached =
        walk_within lst far (in_turn r.passes r.waits) (in_turn_fair r.passes r.waits) initials (Reached lst far r initials)
        (λ m i. initial i)
        (λ u e h i. ⊎_elim (λ p. passing u e h i p refl) (λ (w, p, k). waited u e w h i p k refl))
        (answers n) (walked n) walked_walks

  reached_in : (s : ℕ → Bool) → IsLeast lst far r initials s → (m : ℕ) → Reached lst far r initials m → s m ≡ true
  reached_in s l m (initial i) = l.has m i
  reached_in s l m (passing u e h i p q) = ap s q ∙ l.closed u e (reached_in s l u h) i (inl p)
  reached_in s l m (waited u e w h i p k q) = ap s q ∙ l.closed u e (reached_in s l u h) i (inr (w, p, reached_in s l w k))

  pub least_is_reached : (s : ℕ → Bool) → IsLeast lst far r initials s → ((m : ℕ) → Reached lst far r initials m → s m ≡ true) × ((n : ℕ) → Finite lst far initials n → (m : ℕ) → s m ≡ true → Reached lst far r initials m)
  least_is_reached s l = (
    reached_in s l,
    λ n fin m h. walked_reached n fin m (l.inside (walked n).seen (walked_least n fin).has (walked_least n fin).closed m h),
  )
