-- Each turn leaves less to do, so that over a finite graph each step of a walk comes to an end, and enough turns come to the
-- empty stack; and the room that they take.
-- Assumes nothing.
use Rattle.std.proofs.Common.{◌≡◌, ℕ, zero, suc, ◌+◌, ◌*◌, ◌<◌, ◌≤◌, Bool, false, ◌⊎◌, List, [], ◌∷◌, length, Some, None, Option, sym, refl, ap, ◌∙◌, subst, inl, inr, ⊎_elim, arith}
use Rattle.std.proofs.lemmas.List.{length-reverse, nil_from_length}
use Rattle.theory.specs.Edges.{In}
use Rattle.theory.specs.Rules.{Rule, stays_at, Fair}
use Rattle.theory.specs.Least.{Finite}
use Rattle.theory.specs.Walk.{Place, place, mark, found, dropped, finished, Step, Walks, over, start, look, turn, run, edges, enough}
use Rattle.theory.specs.Walk.Step.{ends, finds, drops, finishes}
use Rattle.theory.proofs.Kept.{in_kept}
use Rattle.theory.proofs.Asking.{freed_and_left}
use Rattle.theory.proofs.Looking.{turn_cases}
use Rattle.theory.proofs.Looking.Turns.{ended, saw, passed, closed}
use Rattle.theory.proofs.Walking.{walk_keeps, over_is, in_start, sent_at, answered_at}
use Rattle.theory.proofs.Left.{left, left_mark, left_edges, left_twice, left_turns}
use Rattle.theory.proofs.Machines.{comes_to_end}
use Rattle.theory.proofs.Running.{run_keeps, walk_machine}

length_start : (xs : List ℕ) → length (over xs []) ≡ length xs
length_start xs = ap length (over_is xs []) ∙ length-reverse xs

module _ {E : Type 0} (lst : ℕ → List E) (far : E → ℕ) (r : Rule E) where
  module _ (fair : Fair r) (n : ℕ) (ends_below : (u : ℕ) (e : E) → u < n → In e (lst u) → far e < n) where
    -- the walk stays below n
    record Below (s : Place E) : Type 0 where
      stacked : (u : ℕ) → In u s.stack → u < n
      held_ends : (e : E) → In e s.held → far e < n

    below_found : (s : Place E) (x : ℕ) (st : List ℕ) → s.stack ≡ x ∷ st → Below s → Below (found lst far r x s)
    below_found s x st e b =
        let own : x < n = b.stacked x (subst (In x) (sym e) (inl refl)) in
        record {
          stacked = λ u i. ⊎_elim
              (λ j. ⊎_elim (b.stacked u) (λ (f, k, q). subst (λ v. v < n) (sym q) (b.held_ends f (fair.only x s.held f k).0)) ((sent_at lst far r s x).new u j))
              (λ (f, k, o, q). subst (λ v. v < n) (sym q) (ends_below x f own k))
              ((answered_at lst far r s x).new u i);
          held_ends = λ f i. ⊎_elim (λ j. b.held_ends f (in_kept (stays_at r x) s.held f j).0) (λ j. ends_below x f own j) ((answered_at lst far r s x).held_new f i);
        }

    below_less : (s : Place E) (x : ℕ) (st : List ℕ) (f : ℕ → Bool) → s.stack ≡ x ∷ st → Below s → Below (place st s.seen f s.held)
    below_less s x st f e b = record { stacked = λ u i. b.stacked u (subst (In u) (sym e) (inr i)); held_ends = b.held_ends }

    below_start : (initials : List ℕ) → ((i : ℕ) → In i initials → i < n) → Below (start initials)
    below_start initials b = record { stacked = λ u i. b u (in_start initials u i); held_ends = λ e i. absurd i }

    -- what a new node adds: its edges are on the stack and held at most, and what it let out moved from there to the stack
    record Grows (s : Place E) (x : ℕ) : Type 0 where
      stack_held : length (found lst far r x s).stack + length (found lst far r x s).held ≤ length s.stack + length s.held + 2 * length (lst x)
      held : length (found lst far r x s).held ≤ length s.held + length (lst x)

    grows : (s : Place E) (x : ℕ) → Grows s x
    grows s x =
        let a = (sent_at lst far r s x).most in
        let c = (answered_at lst far r s x).most in
        let d = (answered_at lst far r s x).held_most in
        let f = freed_and_left r fair x s.held in
        record { stack_held = omega arith; held = omega arith }

    -- how many turns are left at most
    abbrev effort : Place E → ℕ
    effort s = length s.stack + length s.held + left (λ u. suc (2 * length (lst u))) s.seen n

    effort_found : (s : Place E) (x : ℕ) (st : List ℕ) → s.stack ≡ x ∷ st → s.seen x ≡ false → Below s → effort (found lst far r x s) < effort s
    effort_found s x st e new b =
        let own : x < n = b.stacked x (subst (In x) (sym e) (inl refl)) in
        let a = (grows s x).stack_held in
        let g = left_mark (λ u. suc (2 * length (lst u))) s.seen x n own new in
        omega arith

    effort_less : (s : Place E) (x : ℕ) (st : List ℕ) (f : ℕ → Bool) → s.stack ≡ x ∷ st → effort (place st s.seen f s.held) < effort s
    effort_less s x st f e = let q = ap length e in omega arith

    falls : (s : Place E) → Below s → (s.stack ≡ []) ⊎ (Below (turn lst far r s) × (effort (turn lst far r s) < effort s))
    falls s b = elim (turn_cases lst far r s) [
      | ended e a q ↦ inl e
      | saw x st e y a q ↦ inr (less q (below_found s x st e b) (effort_found s x st e y b))
      | passed x st e y z a q ↦ inr (less q (below_less s x st s.done e b) (effort_less s x st s.done e))
      | closed x st e y z a q ↦ inr (less q (below_less s x st (mark s.done x) e b) (effort_less s x st (mark s.done x) e))
    ]
      where
        less : {t : Place E} → turn lst far r s ≡ t → Below t → effort t < effort s → Below (turn lst far r s) × (effort (turn lst far r s) < effort s)
        less q c l = subst (λ v. Below v × (effort v < effort s)) (sym q) (c, l)

    -- with so much to do a step comes to an end
    ends_step : (k : ℕ) (s : Place E) → Below s → effort s ≤ k → (a : Option ℕ) × (t : Place E) × Step lst far r a t s
    ends_step zero s b m = (None, s, ends (nil_from_length s.stack (omega arith)) refl refl)
    ends_step (suc k) s b m =
        elim (turn_cases lst far r s) [
          | ended e _ _ ↦ (None, s, ends e refl refl)
          | saw x st e y _ _ ↦
              let l = effort_found s x st e y b in
              let w = ends_step k (found lst far r x s) (below_found s x st e b) (omega arith) in
              (w.0, w.1, finds x st e y w.2)
          | passed x st e y z _ _ ↦
              let l = effort_less s x st s.done e in
              let w = ends_step k (dropped st s) (below_less s x st s.done e b) (omega arith) in
              (w.0, w.1, drops x st e y z w.2)
          | closed x st e y z _ _ ↦ (Some x, finished x st s, finishes x st e y z refl refl)
        ]

    walk_keeps_below : (s : Place E) (xs : List ℕ) (t : Place E) → Walks lst far r s xs t → Below s → Below t
    walk_keeps_below =
        walk_keeps lst far r Below
        (record {
          finding = λ s x st e y b. below_found s x st e b;
          dropping = λ s x st e y z b. below_less s x st s.done e b;
          finishing = λ s x st e y z b. below_less s x st (mark s.done x) e b;
        })

    -- the stack and the held edges take no more than a and b with what is left
    record Fits (a b : ℕ) (s : Place E) : Type 0 where
      below : Below s
      stack_room : length s.stack + length s.held + left (λ u. 2 * length (lst u)) s.seen n ≤ a
      held_room : length s.held + left (λ u. length (lst u)) s.seen n ≤ b

    fits_found : (a b : ℕ) (s : Place E) (x : ℕ) (st : List ℕ) → s.stack ≡ x ∷ st → s.seen x ≡ false → Fits a b s → Fits a b (found lst far r x s)
    fits_found a b s x st e new f =
        let own : x < n = f.below.stacked x (subst (In x) (sym e) (inl refl)) in
        let c = (grows s x).stack_held in
        let d = (grows s x).held in
        let g = left_mark (λ u. 2 * length (lst u)) s.seen x n own new in
        let h = left_mark (λ u. length (lst u)) s.seen x n own new in
        let y = f.stack_room in
        let z = f.held_room in
        record { below = below_found s x st e f.below; stack_room = omega arith; held_room = omega arith }

    fits_less : (a b : ℕ) (s : Place E) (x : ℕ) (st : List ℕ) (d : ℕ → Bool) → s.stack ≡ x ∷ st → Fits a b s → Fits a b (place st s.seen d s.held)
    fits_less a b s x st d e f =
        let q = ap length e in
        let y = f.stack_room in
        record { below = below_less s x st d e f.below; stack_room = omega arith; held_room = f.held_room }

    run_keeps_fits : (a b k : ℕ) (s : Place E) → Fits a b s → Fits a b (run lst far r k s)
    run_keeps_fits a b k s =
        run_keeps lst far r (Fits a b)
        (record {
          finding = λ s x st e y f. fits_found a b s x st e y f;
          dropping = λ s x st e y z f. fits_less a b s x st s.done e f;
          finishing = λ s x st e y z f. fits_less a b s x st (mark s.done x) e f;
        })
        k s

  module _ (fair : Fair r) (initials : List ℕ) (n : ℕ) (fin : Finite lst far initials n) where
    pub run_ends : (k : ℕ) → enough lst initials n ≤ k → (run lst far r k (start initials)).stack ≡ []
    run_ends k m =
        let a = length_start initials in
        let b = left_turns lst n in
        (comes_to_end (walk_machine lst far r) (λ s. s.stack ≡ []) (λ s e. ap (λ v. look lst far r v s) e) (Below fair n fin.ends) (effort fair n fin.ends)
        (falls fair n fin.ends) k (start initials) (below_start fair n fin.ends initials fin.starts) (omega arith)).0

    pub step_exists : (xs : List ℕ) (s : Place E) → Walks lst far r (start initials) xs s → (a : Option ℕ) × (t : Place E) × Step lst far r a t s
    step_exists xs s w =
        let b = walk_keeps_below fair n fin.ends (start initials) xs s w (below_start fair n fin.ends initials fin.starts) in
        ends_step fair n fin.ends (effort fair n fin.ends s) s b (omega arith)

    pub run_fits : (k : ℕ) → (length (run lst far r k (start initials)).stack ≤ length initials + 2 * edges lst n) × (length (run lst far r k (start initials)).held ≤ edges lst n)
    run_fits k =
        let a = length_start initials in
        let b = left_twice lst n in
        let c = left_edges lst n in
        let f = run_keeps_fits fair n fin.ends (length initials + 2 * edges lst n) (edges lst n) k (start initials) (record {
          below = below_start fair n fin.ends initials fin.starts;
          stack_room = omega arith;
          held_room = omega arith;
        }) in
        let y = f.stack_room in
        let z = f.held_room in
        (omega arith, omega arith)
