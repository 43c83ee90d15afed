-- Turns that come to the empty stack are a walk; and what each turn keeps, a number of turns keep. Assumes nothing.
use Rattle.std.proofs.Common.{◌≡◌, ℕ, zero, suc, List, [], ◌∷◌, Some, None, Option, sym, refl, subst}
use Rattle.theory.specs.Rules.{Rule}
use Rattle.theory.specs.Walk.{Place, Step, after, Walks, start, turn, did, run, order}
use Rattle.theory.specs.Walk.Step.{ends, finds, drops, finishes}
use Rattle.theory.specs.Walk.Walks.{begins, goes}
use Rattle.theory.proofs.Machines.{Machine, all_keep}
use Rattle.theory.proofs.Walking.{Lasting}
use Rattle.theory.proofs.Looking.{turn_cases}
use Rattle.theory.proofs.Looking.Turns.{ended, saw, passed, closed}

module _ {E : Type 0} (lst : ℕ → List E) (far : E → ℕ) (r : Rule E) where
  -- k turns from s, with xs done before, are a walk from o
  Then : Place E → ℕ → List ℕ → Place E → Type 0
  Then o k xs s = Walks lst far r o (order lst far r k s xs) (run lst far r k s)

  then_by : {a : Option ℕ} (o : Place E) (k : ℕ) (xs : List ℕ) (s : Place E) → did s ≡ a → Then o k (after a xs) (turn lst far r s) → Then o k (after (did s) xs) (turn lst far r s)
  then_by o k xs s q = subst (λ v. Then o k (after v xs) (turn lst far r s)) (sym q)

  -- b is where the last step ended, and a step from s is one from b
  run_walks_on : (o : Place E) (k : ℕ) (xs : List ℕ) (b s : Place E) → Walks lst far r o xs b → ((a : Option ℕ) (t : Place E) → Step lst far r a t s → Step lst far r a t b) → (run lst far r k s).stack ≡ [] → Then o k xs s
  unfolding Then run order
  run_walks_on o zero xs b s w on z = goes None xs b w (on None s (ends z refl refl)) refl
  run_walks_on o (suc k) xs b s w on z =
      let t = turn lst far r s in
      elim (turn_cases lst far r s) [
        | ended e n q ↦ then_by o k xs s n (run_walks_on o k xs b t w (λ a u p. on a u (subst (Step lst far r a u) q p)) z)
        | saw x st e y n q ↦ then_by o k xs s n (run_walks_on o k xs b t w (λ a u p. on a u (finds x st e y (subst (Step lst far r a u) q p))) z)
        | passed x st e y m n q ↦ then_by o k xs s n (run_walks_on o k xs b t w (λ a u p. on a u (drops x st e y m (subst (Step lst far r a u) q p))) z)
        | closed x st e y m n q ↦ then_by o k xs s n (run_walks_on o k (x ∷ xs) t t (goes (Some x) xs b w (on (Some x) t (finishes x st e y m refl q)) refl) (λ a u p. p) z)
      ]

  pub run_walks : (initials : List ℕ) (k : ℕ) → (run lst far r k (start initials)).stack ≡ [] → Walks lst far r (start initials) (order lst far r k (start initials) []) (run lst far r k (start initials))
  unfolding Then
  run_walks initials k z = run_walks_on (start initials) k [] (start initials) (start initials) (begins refl refl) (λ a t p. p) z

  pub walk_machine : Machine (turn lst far r) (run lst far r)
  unfolding run
  walk_machine = record { none = λ s. refl; more = λ k s. refl }

  pub run_keeps : (P : Place E → Type 0) → Lasting lst far r P → (k : ℕ) (s : Place E) → P s → P (run lst far r k s)
  run_keeps P l = all_keep walk_machine P (λ s p. elim (turn_cases lst far r s) [
    | ended e a q ↦ subst P (sym q) p
    | saw x st e y a q ↦ subst P (sym q) (l.finding s x st e y p)
    | passed x st e y z a q ↦ subst P (sym q) (l.dropping s x st e y z p)
    | closed x st e y z a q ↦ subst P (sym q) (l.finishing s x st e y z p)
  ])
