-- What the turns of a walk keep, and that a walk which came to the empty stack has seen the least set. Assumes nothing.
use Rattle.std.proofs.Common.{◌≡◌, ℕ, Bool, true, false, eqb, ◌⊎◌, List, [], ◌∷◌, filter, Option, sym, refl, subst, inl, inr, ⊎_elim, true≢false}
use Rattle.std.proofs.Math.Logic.{⊎_map}
use mathlib.Core.List.{reverse_aux}
use Rattle.std.proofs.lemmas.Bool.{or_cases, or_left, or_right, or_parts, eqb-true, eq-eqb}
use Rattle.theory.specs.Edges.{In}
use Rattle.theory.specs.Rules.{Rule, Waits, stays_at, Fair}
use Rattle.theory.specs.Least.{Opens, Inside, IsLeast}
use Rattle.theory.specs.Walk.{Place, place, mark, sends, asks, found, dropped, finished, Step, Walks, over, start}
use Rattle.theory.specs.Walk.Step.{ends, finds, drops, finishes}
use Rattle.theory.specs.Walk.Walks.{begins, goes}
use Rattle.theory.proofs.Kept.{in_kept, kept_in}
use Rattle.theory.proofs.Reaching.{in_reverse, popped, reverse_in}
use Rattle.theory.proofs.Asking.{opens_more, Sent, sent, Answered, answered}

pub mark_own : (d : ℕ → Bool) (x : ℕ) → mark d x x ≡ true
mark_own d x = or_right (d x) (eqb x x) (eq-eqb x x refl)

pub mark_cases : (d : ℕ → Bool) (x n : ℕ) → mark d x n ≡ true → (d n ≡ true) ⊎ (n ≡ x)
mark_cases d x n h = ⊎_map (λ t. t) (λ t. eqb-true n x t) (or_cases (d n) (eqb n x) h)

-- a stack over which initials were put
pub over_is : (xs st : List ℕ) → over xs st ≡ reverse_aux xs st
over_is [] st = refl
over_is (x ∷ xs) st = over_is xs (x ∷ st)

pub in_start : (xs : List ℕ) (n : ℕ) → In n (over xs []) → In n xs
in_start xs n i = reverse_in xs n (subst (In n) (over_is xs []) i)

module _ {E : Type 0} (lst : ℕ → List E) (far : E → ℕ) (r : Rule E) where
  -- a statement on places that a turn of each kind keeps
  pub record Lasting (P : Place E → Type 0) : Type 0 where
    pub finding : (s : Place E) (x : ℕ) (st : List ℕ) → s.stack ≡ x ∷ st → s.seen x ≡ false → P s → P (found lst far r x s)
    pub dropping : (s : Place E) (x : ℕ) (st : List ℕ) → s.stack ≡ x ∷ st → s.seen x ≡ true → s.done x ≡ true → P s → P (dropped st s)
    pub finishing : (s : Place E) (x : ℕ) (st : List ℕ) → s.stack ≡ x ∷ st → s.seen x ≡ true → s.done x ≡ false → P s → P (finished x st s)

  module _ (P : Place E → Type 0) (l : Lasting P) where
    step_keeps : (a : Option ℕ) (t s : Place E) → Step lst far r a t s → P s → P t
    step_keeps a t s (ends e q z) p = subst P (sym z) p
    step_keeps a t s (finds x st e n w) p = step_keeps a t _ w (l.finding s x st e n p)
    step_keeps a t s (drops x st e n m w) p = step_keeps a t _ w (l.dropping s x st e n m p)
    step_keeps a t s (finishes x st e n m q z) p = subst P (sym z) (l.finishing s x st e n m p)

    pub walk_keeps : (s : Place E) (xs : List ℕ) (t : Place E) → Walks lst far r s xs t → P s → P t
    walk_keeps s xs t (begins q z) p = subst P (sym z) p
    walk_keeps s xs t (goes a ys u w st q) p = step_keeps a t u st (walk_keeps s ys u w p)

  -- what the walk owes lies on the stack or is held
  record Covers (initials : List ℕ) (s : Place E) : Type 0 where
    starts : (n : ℕ) → In n initials → (s.seen n ≡ true) ⊎ In n s.stack
    leads : (u : ℕ) (e : E) → s.seen u ≡ true → In e (lst u) → Opens r s.seen e → (s.seen (far e) ≡ true) ⊎ In (far e) s.stack
    waiting : (u : ℕ) (e : E) (w : ℕ) → s.seen u ≡ true → In e (lst u) → Waits r e w → s.seen w ≡ false → In e s.held

  -- the walk stays within T
  record Within (T : ℕ → Type 0) (s : Place E) : Type 0 where
    saw : (n : ℕ) → s.seen n ≡ true → T n
    stacked : (n : ℕ) → In n s.stack → T n
    from : (e : E) → In e s.held → (u : ℕ) × T u × In e (lst u)

  -- the stack once the edges that waited on x went out
  abbrev sent_stack : Place E → ℕ → List ℕ
  sent_stack s x = sends far (mark s.seen x) (r.frees x s.held) s.stack

  pub sent_at : (s : Place E) (x : ℕ) → Sent far (mark s.seen x) (r.frees x s.held) s.stack (sent_stack s x)
  sent_at s x = sent far (mark s.seen x) (r.frees x s.held) s.stack

  pub answered_at : (s : Place E) (x : ℕ) → Answered far (mark s.seen x) r (lst x) (sent_stack s x) (filter (stays_at r x) s.held) (asks far r (mark s.seen x) (lst x) (sent_stack s x) (filter (stays_at r x) s.held))
  answered_at s x = answered far (mark s.seen x) r (lst x) (sent_stack s x) (filter (stays_at r x) s.held)

  module _ (fair : Fair r) (initials : List ℕ) where
    covers_found : (s : Place E) (x : ℕ) → s.seen x ≡ false → Covers initials s → Covers initials (found lst far r x s)
    covers_found s x new c = record {
      starts = λ n i. lift n (c.starts n i);
      leads = λ u e h i o. ⊎_elim (λ old. over_old u e old i o) (λ q. (answered_at s x).all e (subst (λ v. In e (lst v)) q i) o) (mark_cases s.seen x u h);
      waiting = λ u e w h i p t. ⊎_elim
          (λ old. (answered_at s x).held_keeps e (stays u e w old i p t))
          (λ q. (answered_at s x).held_all e w (subst (λ v. In e (lst v)) q i) p t)
          (mark_cases s.seen x u h);
    }
      where
        lift : (n : ℕ) → (s.seen n ≡ true) ⊎ In n s.stack → (mark s.seen x n ≡ true) ⊎ In n (found lst far r x s).stack
        lift n = ⊎_map (λ h. or_left (s.seen n) (eqb n x) h) (λ i. (answered_at s x).keeps n ((sent_at s x).keeps n i))

        freed : (u : ℕ) (e : E) → s.seen u ≡ true → In e (lst u) → Waits r e x → (mark s.seen x (far e) ≡ true) ⊎ In (far e) (found lst far r x s).stack
        freed u e h i p =
            ⊎_map (λ y. y) (λ j. (answered_at s x).keeps (far e) j) ((sent_at s x).all e (fair.all x s.held e (c.waiting u e x h i p new) p))

        over_old : (u : ℕ) (e : E) → s.seen u ≡ true → In e (lst u) → Opens r (mark s.seen x) e → (mark s.seen x (far e) ≡ true) ⊎ In (far e) (found lst far r x s).stack
        over_old u e h i (inl p) = lift (far e) (c.leads u e h i (inl p))
        over_old u e h i (inr (w, p, m)) =
            ⊎_elim (λ y. lift (far e) (c.leads u e h i (inr (w, p, y)))) (λ q. freed u e h i (subst (Waits r e) q p)) (mark_cases s.seen x w m)

        stays : (u : ℕ) (e : E) (w : ℕ) → s.seen u ≡ true → In e (lst u) → Waits r e w → mark s.seen x w ≡ false → In e (filter (stays_at r x) s.held)
        stays u e w h i p m =
            let y = or_parts (s.seen w) (eqb w x) m in
            kept_in (stays_at r x) s.held e (c.waiting u e w h i p y.0) (rw (p, y.1))

    covers_less : (s : Place E) (x : ℕ) (st : List ℕ) (f : ℕ → Bool) → s.stack ≡ x ∷ st → s.seen x ≡ true → Covers initials s → Covers initials (place st s.seen f s.held)
    covers_less s x st f e h c = record {
      starts = λ n i. under n (c.starts n i);
      leads = λ u g y i o. under (far g) (c.leads u g y i o);
      waiting = c.waiting;
    }
      where
        under : (n : ℕ) → (s.seen n ≡ true) ⊎ In n s.stack → (s.seen n ≡ true) ⊎ In n st
        under n y = popped (λ z. s.seen z ≡ true) st h (subst (λ l. (s.seen n ≡ true) ⊎ In n l) e y)

    covers_lasts : Lasting (Covers initials)
    covers_lasts = record {
      finding = λ s x st e n c. covers_found s x n c;
      dropping = λ s x st e h m c. covers_less s x st s.done e h c;
      finishing = λ s x st e h m c. covers_less s x st (mark s.done x) e h c;
    }

    covers_start : Covers initials (start initials)
    covers_start = record {
      starts = λ n i. inr (subst (In n) (sym (over_is initials [])) (in_reverse initials n i));
      leads = λ u e h. absurd (true≢false (sym h));
      waiting = λ u e w h. absurd (true≢false (sym h));
    }

    module _ (T : ℕ → Type 0) (has : (n : ℕ) → In n initials → T n) (closed : (u : ℕ) (e : E) → T u → In e (lst u) → (r.passes e ≡ true) ⊎ ((w : ℕ) × Waits r e w × T w) → T (far e)) where
      within_found : (s : Place E) (x : ℕ) (st : List ℕ) → s.stack ≡ x ∷ st → Within T s → Within T (found lst far r x s)
      within_found s x st e c = record {
        saw = saw;
        stacked = λ n i. ⊎_elim
            (λ j. ⊎_elim (c.stacked n) (λ (f, k, q). subst T (sym q) (freed f (fair.only x s.held f k))) ((sent_at s x).new n j))
            (λ (f, k, o, q). subst T (sym q) (closed x f own k (opens_more r (mark s.seen x) T f saw o)))
            ((answered_at s x).new n i);
        from = λ f i. ⊎_elim (λ j. c.from f (in_kept (stays_at r x) s.held f j).0) (λ j. (x, own, j)) ((answered_at s x).held_new f i);
      }
        where
          own : T x
          own = c.stacked x (subst (In x) (sym e) (inl refl))

          saw : (n : ℕ) → mark s.seen x n ≡ true → T n
          saw n h = ⊎_elim (c.saw n) (λ q. subst T (sym q) own) (mark_cases s.seen x n h)

          freed : (f : E) → In f s.held × Waits r f x → T (far f)
          freed f (i, p) = let u = c.from f i in closed u.0 f u.1 u.2 (inr (x, p, own))

      within_less : (s : Place E) (x : ℕ) (st : List ℕ) (f : ℕ → Bool) → s.stack ≡ x ∷ st → Within T s → Within T (place st s.seen f s.held)
      within_less s x st f e c = record {
        saw = c.saw;
        stacked = λ n i. c.stacked n (subst (In n) (sym e) (inr i));
        from = c.from;
      }

      -- where T has the initials and is closed, a walk sees nothing else
      pub walk_within : (xs : List ℕ) (t : Place E) → Walks lst far r (start initials) xs t → (n : ℕ) → t.seen n ≡ true → T n
      walk_within xs t w =
          (walk_keeps (Within T)
          (record {
            finding = λ s x st e n c. within_found s x st e c;
            dropping = λ s x st e h m c. within_less s x st s.done e c;
            finishing = λ s x st e h m c. within_less s x st (mark s.done x) e c;
          })
          (start initials) xs t w
          (record {
            saw = λ n h. absurd (true≢false (sym h));
            stacked = λ n i. has n (in_start initials n i);
            from = λ e i. absurd i;
          })
          ).saw

    pub walk_stays_inside : (xs : List ℕ) (t : Place E) → Walks lst far r (start initials) xs t → (s : ℕ → Bool) → IsLeast lst far r initials s → Inside t.seen s
    walk_stays_inside xs t w s l = walk_within (λ n. s n ≡ true) l.has l.closed xs t w

    pub walk_is_least : (xs : List ℕ) (t : Place E) → Walks lst far r (start initials) xs t → t.stack ≡ [] → IsLeast lst far r initials t.seen
    walk_is_least xs t w z = record {
      has = λ n i. only n (c.starts n i);
      closed = λ u e h i o. only (far e) (c.leads u e h i o);
      inside = λ o has closed. walk_within (λ n. o n ≡ true) has closed xs t w;
    }
      where
        c : Covers initials t
        c = walk_keeps (Covers initials) covers_lasts (start initials) xs t w covers_start

        only : (n : ℕ) → (t.seen n ≡ true) ⊎ In n t.stack → t.seen n ≡ true
        only n (inl h) = h
        only n (inr i) = absurd (subst (In n) z i)
