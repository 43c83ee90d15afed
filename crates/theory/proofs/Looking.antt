-- One look at the top of the stack, case by case. Assumes nothing.
use Rattle.std.proofs.Common.{◌≡◌, ℕ, true, false, List, [], ◌∷◌, Some, None, Option, refl, ap, inl, inr}
use Rattle.std.proofs.lemmas.Bool.{cases_Bool}
use Rattle.theory.specs.Rules.{Rule}
use Rattle.theory.specs.Walk.{Place, found, dropped, finished, look, turn, did_at, did}

module _ {E : Type 0} (lst : ℕ → List E) (far : E → ℕ) (r : Rule E) where
  -- one turn from s finishes a and leads to t
  pub data Turns (s : Place E) (a : Option ℕ) (t : Place E) : Type 0 where
    ended : s.stack ≡ [] → a ≡ None → t ≡ s → Turns s a t
    saw : (x : ℕ) (st : List ℕ) → s.stack ≡ x ∷ st → s.seen x ≡ false → a ≡ None → t ≡ found lst far r x s → Turns s a t
    passed : (x : ℕ) (st : List ℕ) → s.stack ≡ x ∷ st → s.seen x ≡ true → s.done x ≡ true → a ≡ None → t ≡ dropped st s → Turns s a t
    closed : (x : ℕ) (st : List ℕ) → s.stack ≡ x ∷ st → s.seen x ≡ true → s.done x ≡ false → a ≡ Some x → t ≡ finished x st s → Turns s a t

  module _ (s : Place E) (x : ℕ) (st : List ℕ) (e : s.stack ≡ x ∷ st) where
    pub turn_saw : s.seen x ≡ false → (did s ≡ None) × (turn lst far r s ≡ found lst far r x s)
    turn_saw y = (rw (e, y), rw (e, y))

    pub turn_passed : s.seen x ≡ true → s.done x ≡ true → (did s ≡ None) × (turn lst far r s ≡ dropped st s)
    turn_passed y z = (rw (e, y, z), rw (e, y, z))

    pub turn_closed : s.seen x ≡ true → s.done x ≡ false → (did s ≡ Some x) × (turn lst far r s ≡ finished x st s)
    turn_closed y z = (rw (e, y, z), rw (e, y, z))

  pub turn_cases : (s : Place E) → Turns s (did s) (turn lst far r s)
  turn_cases s = at s.stack refl
    where
      at : (st : List ℕ) → s.stack ≡ st → Turns s (did s) (turn lst far r s)
      at [] e = ended e (ap (λ v. did_at v s) e) (ap (λ v. look lst far r v s) e)
      at (x ∷ st) e =
          elim (cases_Bool (s.seen x)) [
            | inl y ↦ elim (cases_Bool (s.done x)) [
              | inl z ↦ let q = turn_passed s x st e y z in passed x st e y z q.0 q.1
              | inr z ↦ let q = turn_closed s x st e y z in closed x st e y z q.0 q.1
            ]
            | inr y ↦ let q = turn_saw s x st e y in saw x st e y q.0 q.1
          ]
