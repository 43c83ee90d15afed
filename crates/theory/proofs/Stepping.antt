-- A step has one answer and leads to one place; a walk is a number of turns; and one that came to the empty stack
-- has done each node that it saw, once. Assumes nothing.
use Rattle.std.proofs.Common.{◌≡◌, ℕ, zero, suc, ◌+◌, true, eqb, ◌⊎◌, List, [], ◌∷◌, Option, sym, ap, ◌∙◌, subst, inl, inr, ⊎_elim, true≢false, arith}
use Rattle.std.proofs.Math.Logic.{⊎_map}
use Rattle.std.proofs.lemmas.Bool.{or_left, both_ways}
use Rattle.theory.specs.Edges.{In, Distinct}
use Rattle.theory.specs.Rules.{Rule}
use Rattle.theory.specs.Walk.{Place, mark, found, dropped, Step, after, Walks, start, turn, did, run, order}
use Rattle.theory.specs.Walk.Step.{ends, finds, drops, finishes}
use Rattle.theory.specs.Walk.Walks.{begins, goes}
use Rattle.theory.proofs.Reaching.{popped}
use Rattle.theory.proofs.Looking.{turn_saw, turn_passed, turn_closed}
use Rattle.theory.proofs.Walking.{mark_own, mark_cases, sent_at, answered_at}

module _ {E : Type 0} (lst : ℕ → List E) (far : E → ℕ) (r : Rule E) where
  -- a step is some turns
  step_runs : (a : Option ℕ) (t s : Place E) → Step lst far r a t s → (j : ℕ) × ((ys : List ℕ) → (run lst far r j s ≡ t) × (order lst far r j s ys ≡ after a ys))
  unfolding run order
  step_runs a t s (ends e q z) = (0, λ ys. (sym z, ap (λ v. after v ys) (sym q)))
  step_runs a t s (finds x st e n w) =
      let h = turn_saw lst far r s x st e n in
      let k = step_runs a t (found lst far r x s) w in
      (suc k.0, λ ys. (ap (run lst far r k.0) h.1 ∙ (k.1 ys).0, (λ i. order lst far r k.0 (h.1 i) (after (h.0 i) ys)) ∙ (k.1 ys).1))
  step_runs a t s (drops x st e n m w) =
      let h = turn_passed lst far r s x st e n m in
      let k = step_runs a t (dropped st s) w in
      (suc k.0, λ ys. (ap (run lst far r k.0) h.1 ∙ (k.1 ys).0, (λ i. order lst far r k.0 (h.1 i) (after (h.0 i) ys)) ∙ (k.1 ys).1))
  step_runs a t s (finishes x st e n m q z) =
      let h = turn_closed lst far r s x st e n m in
      (1, λ ys. (h.1 ∙ sym z, ap (λ v. after v ys) (h.0 ∙ sym q)))

  -- turns after turns
  run_on : (k j : ℕ) (s : Place E) (ys : List ℕ) → (run lst far r (k + j) s ≡ run lst far r j (run lst far r k s)) × (order lst far r (k + j) s ys ≡ order lst far r j (run lst far r k s) (order lst far r k s ys))
  unfolding run order
  run_on zero j s ys = let q : zero + j ≡ j = omega arith in (ap (λ v. run lst far r v s) q, ap (λ v. order lst far r v s ys) q)
  run_on (suc k) j s ys =
      let q : suc k + j ≡ suc (k + j) = omega arith in
      let h = run_on k j (turn lst far r s) (after (did s) ys) in
      (ap (λ v. run lst far r v s) q ∙ h.0, ap (λ v. order lst far r v s ys) q ∙ h.1)

  pub walk_runs : (s : Place E) (xs : List ℕ) (t : Place E) → Walks lst far r s xs t → (k : ℕ) × (run lst far r k s ≡ t) × (order lst far r k s [] ≡ xs)
  unfolding run order
  walk_runs s xs t (begins q z) = (0, sym z, sym q)
  walk_runs s xs t (goes a ys u w st q) =
      let k = walk_runs s ys u w in
      let j = step_runs a t u st in
      let h = run_on k.0 j.0 s [] in (
        k.0 + j.0,
        h.0 ∙ ap (run lst far r j.0) k.1 ∙ (j.1 ys).0,
        h.1 ∙ (λ i. order lst far r j.0 (k.1 i) (k.2 i)) ∙ (j.1 ys).1 ∙ sym q,
      )

  pub step_is_one : (a b : Option ℕ) (t u s : Place E) → Step lst far r a t s → Step lst far r b u s → (a ≡ b) × (t ≡ u)
  step_is_one a b t u s (ends e q z) (ends e' q' z') = (cc, cc)
  step_is_one a b t u s (ends e q z) (finds x st e' n w) = cc
  step_is_one a b t u s (ends e q z) (drops x st e' n m w) = cc
  step_is_one a b t u s (ends e q z) (finishes x st e' n m w v) = cc
  step_is_one a b t u s (finds x st e n w) (ends e' q' z') = cc
  step_is_one a b t u s (finds x st e n w) (finds y st' e' n' w') = let top : y ≡ x = cc in step_is_one a b t u _ w (subst (λ v. Step lst far r b u (found lst far r v s)) top w')
  step_is_one a b t u s (finds x st e n w) (drops y st' e' n' m' w') = cc
  step_is_one a b t u s (finds x st e n w) (finishes y st' e' n' m' w' v') = cc
  step_is_one a b t u s (drops x st e n m w) (ends e' q' z') = cc
  step_is_one a b t u s (drops x st e n m w) (finds y st' e' n' w') = cc
  step_is_one a b t u s (drops x st e n m w) (drops y st' e' n' m' w') = let rest : st' ≡ st = cc in step_is_one a b t u _ w (subst (λ v. Step lst far r b u (dropped v s)) rest w')
  step_is_one a b t u s (drops x st e n m w) (finishes y st' e' n' m' w' v') = cc
  step_is_one a b t u s (finishes x st e n m w v) (ends e' q' z') = cc
  step_is_one a b t u s (finishes x st e n m w v) (finds y st' e' n' w') = cc
  step_is_one a b t u s (finishes x st e n m w v) (drops y st' e' n' m' w') = cc
  step_is_one a b t u s (finishes x st e n m w v) (finishes y st' e' n' m' w' v') = (cc, cc)

  -- xs are the nodes done, each once; what was seen is done or on the stack
  record Lists (xs : List ℕ) (s : Place E) : Type 0 where
    apart : Distinct xs
    all : (n : ℕ) → s.done n ≡ true → In n xs
    only : (n : ℕ) → In n xs → s.done n ≡ true
    saw_done : (n : ℕ) → s.done n ≡ true → s.seen n ≡ true
    due : (n : ℕ) → s.seen n ≡ true → (s.done n ≡ true) ⊎ In n s.stack

  step_lists : (a : Option ℕ) (xs : List ℕ) (t s : Place E) → Step lst far r a t s → Lists xs s → Lists (after a xs) t
  step_lists a xs t s (ends e q z) l = subst (λ v. Lists (after v xs) t) (sym q) (subst (Lists xs) (sym z) l)
  step_lists a xs t s (finds x st e n w) l =
      step_lists a xs t (found lst far r x s) w (record {
        apart = l.apart;
        all = l.all;
        only = l.only;
        saw_done = λ m h. or_left (s.seen m) (eqb m x) (l.saw_done m h);
        due = λ m h.
            let up : In m s.stack → In m (found lst far r x s).stack = λ i. (answered_at lst far r s x).keeps m ((sent_at lst far r s x).keeps m i) in
            ⊎_elim (λ y. ⊎_map (λ d. d) (λ i. up i) (l.due m y)) (λ q. inr (up (subst (In m) (sym e) (inl q)))) (mark_cases s.seen x m h);
      })
  step_lists a xs t s (drops x st e n m w) l =
      step_lists a xs t (dropped st s) w (record {
        apart = l.apart;
        all = l.all;
        only = l.only;
        saw_done = l.saw_done;
        due = λ k h. popped (λ z. s.done z ≡ true) st m (subst (λ v. (s.done k ≡ true) ⊎ In k v) e (l.due k h));
      })
  step_lists a xs t s (finishes x st e n m q z) l =
      subst (λ v. Lists (after v xs) t) (sym q) (subst (Lists (x ∷ xs)) (sym z) (record {
        apart = (λ i. both_ways (s.done x) m (l.only x i), l.apart);
        all = λ k h. ⊎_elim (λ d. inr (l.all k d)) (λ p. inl p) (mark_cases s.done x k h);
        only = λ k. ⊎_elim (λ p. ap (mark s.done x) p ∙ mark_own s.done x) (λ i. or_left (s.done k) (eqb k x) (l.only k i));
        saw_done = λ k h. ⊎_elim (l.saw_done k) (λ p. ap s.seen p ∙ n) (mark_cases s.done x k h);
        due = λ k h. ⊎_elim
            (λ d. inl (or_left (s.done k) (eqb k x) d))
            (λ i. ⊎_map (λ p. ap (mark s.done x) p ∙ mark_own s.done x) (λ j. j) (subst (In k) e i))
            (l.due k h);
      }))

  walk_lists : (s : Place E) (xs : List ℕ) (t : Place E) → Walks lst far r s xs t → Lists [] s → Lists xs t
  walk_lists s xs t (begins q z) l = subst (λ v. Lists v t) (sym q) (subst (Lists []) (sym z) l)
  walk_lists s xs t (goes a ys u w st q) l = subst (λ v. Lists v t) (sym q) (step_lists a ys t u st (walk_lists s ys u w l))

  pub walk_does_each_once : (initials xs : List ℕ) (t : Place E) → Walks lst far r (start initials) xs t → t.stack ≡ [] → Distinct xs × ((n : ℕ) → t.seen n ≡ true → In n xs) × ((n : ℕ) → In n xs → t.seen n ≡ true)
  walk_does_each_once initials xs t w z =
      let l = walk_lists (start initials) xs t w (record {
        apart = tt;
        all = λ n h. absurd (true≢false (sym h));
        only = λ n i. absurd i;
        saw_done = λ n h. h;
        due = λ n h. inl h;
      }) in (
        l.apart,
        λ n h. ⊎_elim (l.all n) (λ i. absurd (subst (In n) z i)) (l.due n h),
        λ n i. l.saw_done n (l.only n i),
      )
