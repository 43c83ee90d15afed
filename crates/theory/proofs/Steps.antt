-- The walks turn by turn: each is a machine, so that a turn more is a turn at the end, and walks that have ended agree; and what a
-- turn does. Assumes nothing.
use Rattle.std.proofs.Common.{◌≡◌, ℕ, List, [], ◌∷◌, refl}
use Rattle.theory.specs.Components.{GatherGoesBySteps, gather, pull}
use Rattle.theory.specs.Listings.{Linking, ShowGoesBySteps, show, shows}
use Rattle.theory.specs.PostOrder.{RunGoesBySteps, State, in?, run, step}
use Rattle.theory.proofs.Machines.{Machine, ended_agree, one_last}

-- a decision of what holds, and of what does not
decided_yes : {A : Type 0} (c : Dec A) → A → (a : A) × (c ≡ yes a)
decided_yes (yes a) b = (a, refl)
decided_yes (no n) b = absurd (n b)

decided_no : {A : Type 0} (c : Dec A) → (A → ⊥) → (n : A → ⊥) × (c ≡ no n)
decided_no (yes a) n = absurd (n a)
decided_no (no m) n = (m, refl)

-- nothing is left on the stack
abbrev pub Empty : State → Type 0
Empty x = x.stack ≡ []

module _ (out : ℕ → List ℕ) where
  abbrev pub steps : State → State
  steps x = step out x.stack x.disc x.fin

  abbrev pub pulls : State → State
  pulls x = pull out x.stack x.disc x.fin

  pub run_machine : Machine steps (λ k x. run out k x.stack x.disc x.fin)
  unfolding run
  run_machine = record { none = λ x. refl; more = λ k x. refl }

  pub gather_machine : Machine pulls (λ k x. gather out k x.stack x.disc x.fin)
  unfolding gather
  gather_machine = record { none = λ x. refl; more = λ k x. refl }

  pub step_stays : (x : State) → Empty x → steps x ≡ x
  step_stays x e = rest x.stack e
    where
      rest : (s : List ℕ) → s ≡ [] → step out s x.disc x.fin ≡ record { stack = s; disc = x.disc; fin = x.fin }
      rest [] e = refl
      rest (v ∷ s) e = cc

  pub pull_stays : (x : State) → Empty x → pulls x ≡ x
  pull_stays x e = rest x.stack e
    where
      rest : (s : List ℕ) → s ≡ [] → pull out s x.disc x.fin ≡ record { stack = s; disc = x.disc; fin = x.fin }
      rest [] e = refl
      rest (v ∷ s) e = cc

module _ {X : Type 0} (lst : ℕ → List X) (to : X → ℕ) where
  abbrev pub shown_next : Linking X → Linking X
  shown_next x = show lst to x.stack x.met x.shown

  pub shows_machine : Machine shown_next (λ k x. shows lst to k x.stack x.met x.shown)
  unfolding shows
  shows_machine = record { none = λ x. refl; more = λ k x. refl }

  pub show_stays : (x : Linking X) → x.stack ≡ [] → shown_next x ≡ x
  show_stays x e = rest x.stack e
    where
      rest : (s : List X) → s ≡ [] → show lst to s x.met x.shown ≡ record { stack = s; met = x.met; shown = x.shown }
      rest [] e = refl
      rest (v ∷ s) e = cc

pub run_goes_by_steps : RunGoesBySteps
run_goes_by_steps out s d f = record {
  last = λ k. one_last (run_machine out) k (record { stack = s; disc = d; fin = f });
  agree = λ k m a b. ended_agree (run_machine out) Empty (step_stays out) k m (record { stack = s; disc = d; fin = f }) a b;
  new = λ v n. rw (decided_no (in? v d) n).1;
  finish = λ v h n. rw ((decided_yes (in? v d) h).1, (decided_no (in? v f) n).1);
  skip = λ v h g. rw ((decided_yes (in? v d) h).1, (decided_yes (in? v f) g).1);
}

pub gather_goes_by_steps : GatherGoesBySteps
gather_goes_by_steps out s t g = record {
  last = λ k. one_last (gather_machine out) k (record { stack = s; disc = t; fin = g });
  agree = λ k m a b. ended_agree (gather_machine out) Empty (pull_stays out) k m (record { stack = s; disc = t; fin = g }) a b;
  new = λ v n. rw (decided_no (in? v t) n).1;
  skip = λ v h. rw (decided_yes (in? v t) h).1;
}

pub show_goes_by_steps : (X : Type 0) → ShowGoesBySteps X
show_goes_by_steps X lst to s m h = record {
  last = λ k. one_last (shows_machine lst to) k (record { stack = s; met = m; shown = h });
  agree = λ k j a b. ended_agree (shows_machine lst to) (λ x. x.stack ≡ []) (show_stays lst to) k j (record { stack = s; met = m; shown = h }) a b;
  new = λ e n. rw (decided_no (in? (to e) m) n).1;
  old = λ e i. rw (decided_yes (in? (to e) m) i).1;
}
