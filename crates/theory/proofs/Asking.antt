-- What stands on the stack, and what is held, once edges were handed out and the rule was asked about a list of edges. Assumes nothing.
use Rattle.std.proofs.Common.{◌≡◌, ℕ, ◌+◌, ◌≤◌, Bool, true, false, cond, ◌⊎◌, List, [], ◌∷◌, ◌++◌, length, Some, None, filter, Option, sym, refl, ap, ◌∙◌, subst, inl, inr, ⊎_elim, arith, length-append}
use Rattle.std.proofs.Math.Logic.{⊎_map}
use Rattle.std.proofs.lemmas.Bool.{cond_both, or_cases, or_left, or_right, eqb-true, eq-eqb}
use Rattle.std.proofs.lemmas.List.Filters.{length-filter_both}
use Rattle.theory.specs.Edges.{In}
use Rattle.theory.specs.Rules.{Rule, Waits, is_node, waits_on, stays_at, was_told, hands, held_for, holds, Fair, in_turn}
use Rattle.theory.specs.Least.{Opens}
use Rattle.theory.specs.Walk.{send, sends, Asked, asks}
use Rattle.theory.proofs.Kept.{in_kept, kept_in, kept_all}
use Rattle.theory.proofs.Reaching.{in_cases, in_left, in_right}

told_some : (d : ℕ → Bool) (o : Option ℕ) → was_told d o ≡ true → (w : ℕ) × (o ≡ Some w) × (d w ≡ true)
told_some d None t = cc
told_some d (Some w) t = (w, refl, t)

is_node_lem : (o : Option ℕ) (n : ℕ) → is_node n o ≡ true → o ≡ Some n
is_node_lem None n t = cc
is_node_lem (Some w) n t = ap Some (eqb-true w n t)

node_is : (o : Option ℕ) (n : ℕ) → o ≡ Some n → is_node n o ≡ true
node_is o n e = ap (is_node n) e ∙ eq-eqb n n refl

module _ {E : Type 0} (r : Rule E) where
  opens_hands : (d : ℕ → Bool) (e : E) → Opens r d e → hands r d e ≡ true
  opens_hands d e (inl p) = or_left (r.passes e) (was_told d (r.waits e)) p
  opens_hands d e (inr (w, q, t)) = or_right (r.passes e) (was_told d (r.waits e)) (ap (was_told d) q ∙ t)

  hands_opens : (d : ℕ → Bool) (e : E) → hands r d e ≡ true → Opens r d e
  hands_opens d e h = ⊎_map (λ p. p) (λ t. told_some d (r.waits e) t) (or_cases (r.passes e) (was_told d (r.waits e)) h)

  -- what opens for a set opens for all that has its nodes
  pub opens_more : (d : ℕ → Bool) (T : ℕ → Type 0) (e : E) → ((n : ℕ) → d n ≡ true → T n) → Opens r d e → (r.passes e ≡ true) ⊎ ((w : ℕ) × Waits r e w × T w)
  opens_more d T e sub (inl p) = inl p
  opens_more d T e sub (inr (w, q, h)) = inr (w, q, sub w h)

  -- what is let out and what stays are as many as were held
  pub freed_and_left : Fair r → (n : ℕ) (held : List E) → length (r.frees n held) + length (filter (stays_at r n) held) ≡ length held
  freed_and_left fair n held =
      let a = fair.each n held (λ _. true) in
      let b = ap length (kept_all (λ _. true) (r.frees n held) (λ _ _. refl)) in
      let c = ap length (kept_all (λ _. true) (filter (waits_on r n) held) (λ _ _. refl)) in
      let d = length-filter_both (waits_on r n) (stays_at r n) (λ _. refl) held in
      omega arith

pub in_turn_fair : {E : Type 0} (passes : E → Bool) (waits : E → Option ℕ) → Fair (in_turn passes waits)
in_turn_fair passes waits = record {
  only = λ n held e i. let k = in_kept (λ e. is_node n (waits e)) held e i in (k.0, is_node_lem (waits e) n k.1);
  all = λ n held e i w. kept_in (λ e. is_node n (waits e)) held e i (node_is (waits e) n w);
  each = λ n held p. refl;
}

-- the list l' is l, or where C holds l with x
record Puts {X : Type 0} (C : Type 0) (x : X) (l l' : List X) : Type 0 where
  keeps : (y : X) → In y l → In y l'
  new : (y : X) → In y l' → In y l ⊎ (C × (y ≡ x))
  most : length l' ≤ length l + 1

puts_none : {X : Type 0} {C : Type 0} {x : X} {l : List X} → Puts C x l l
puts_none = record { keeps = λ y i. i; new = λ y i. inl i; most = omega arith }

-- what holding one edge makes of the held list
module _ {E : Type 0} (d : ℕ → Bool) (held : List E) (e : E) where
  hold_puts : (o : Option ℕ) → Puts (Unit {0}) e held (held_for d held e o)
  hold_puts None = puts_none
  hold_puts (Some w) = cond_both (d w) held (held ++ e ∷ []) (Puts (Unit {0}) e held) (λ _. puts_none) (λ _. record {
    keeps = λ f. in_left f held (e ∷ []);
    new = λ f i. ⊎_elim (λ k. inl k) (⊎_elim (λ q. inr (tt, q)) (λ z. absurd z)) (in_cases f held (e ∷ []) i);
    most = omega (arith, length-append held (e ∷ []));
  })

  hold_own : (o : Option ℕ) (w : ℕ) → o ≡ Some w → d w ≡ false → In e (held_for d held e o)
  hold_own o w q n = rw (q, n) (in_right e held (e ∷ []) (inl refl))

module _ {E : Type 0} (far : E → ℕ) (d : ℕ → Bool) where
  send_puts : {C : Type 0} → C → (e : E) (st : List ℕ) → Puts C (far e) st (send far d e st)
  send_puts {C} h e st = cond_both (d (far e)) st (far e ∷ st) (Puts C (far e) st) (λ _. puts_none) (λ _. record {
    keeps = λ n i. inr i;
    new = λ n. ⊎_elim (λ q. inr (h, q)) (λ j. inl j);
    most = omega arith;
  })

  send_own : (e : E) (st : List ℕ) → (d (far e) ≡ true) ⊎ In (far e) (send far d e st)
  send_own e st = cond_both (d (far e)) st (far e ∷ st) (λ l. (d (far e) ≡ true) ⊎ In (far e) l) (λ t. inl t) (λ _. inr (inl refl))

  -- the edges es were handed out over the stack st, which is now st'
  pub record Sent (es : List E) (st st' : List ℕ) : Type 0 where
    pub keeps : (n : ℕ) → In n st → In n st'
    pub new : (n : ℕ) → In n st' → In n st ⊎ ((e : E) × In e es × (n ≡ far e))
    pub all : (e : E) → In e es → (d (far e) ≡ true) ⊎ In (far e) st'
    pub most : length st' ≤ length st + length es

  pub sent : (es : List E) (st : List ℕ) → Sent es st (sends far d es st)
  sent [] st = record { keeps = λ n i. i; new = λ n i. inl i; all = λ e i. absurd i; most = omega arith }
  sent (e ∷ es) st =
      let q = sent es (send far d e st) in
      let u : Puts (Unit {0}) (far e) st (send far d e st) = send_puts tt e st in
      record {
        keeps = λ n i. q.keeps n (u.keeps n i);
        new = λ n i. ⊎_elim (λ j. ⊎_elim (λ k. inl k) (λ (_, z). inr (e, inl refl, z)) (u.new n j)) (λ (f, k, z). inr (f, inr k, z)) (q.new n i);
        all = λ f. ⊎_elim
            (λ z. subst (λ v. (d (far v) ≡ true) ⊎ In (far v) (sends far d es (send far d e st))) (sym z) (⊎_map (λ t. t) (λ j. q.keeps (far e) j) (send_own e st)))
            (q.all f);
        most = omega (arith, q.most, u.most);
      }

  module _ (r : Rule E) where
    -- the rule was asked about the edges es, with the stack st and the held edges
    pub record Answered (es : List E) (st : List ℕ) (held : List E) (a : Asked E) : Type 0 where
      pub keeps : (n : ℕ) → In n st → In n a.stack
      pub new : (n : ℕ) → In n a.stack → In n st ⊎ ((e : E) × In e es × Opens r d e × (n ≡ far e))
      pub all : (e : E) → In e es → Opens r d e → (d (far e) ≡ true) ⊎ In (far e) a.stack
      pub most : length a.stack ≤ length st + length es
      pub held_keeps : (e : E) → In e held → In e a.held
      pub held_new : (e : E) → In e a.held → In e held ⊎ In e es
      pub held_all : (e : E) (w : ℕ) → In e es → Waits r e w → d w ≡ false → In e a.held
      pub held_most : length a.held ≤ length held + length es

    abbrev given : E → List ℕ → List ℕ
    given e st = cond (hands r d e) (send far d e st) st

    given_puts : (e : E) (st : List ℕ) → Puts (Opens r d e) (far e) st (given e st)
    given_puts e st = cond_both (hands r d e) (send far d e st) st (Puts (Opens r d e) (far e) st) (λ h. send_puts (hands_opens r d e h) e st) (λ _. puts_none)

    given_own : (e : E) (st : List ℕ) → Opens r d e → (d (far e) ≡ true) ⊎ In (far e) (given e st)
    given_own e st o = rw (opens_hands r d e o) (send_own e st)

    pub answered : (es : List E) (st : List ℕ) (held : List E) → Answered es st held (asks far r d es st held)
    answered [] st held = record {
      keeps = λ n i. i;
      new = λ n i. inl i;
      all = λ e i. absurd i;
      most = omega arith;
      held_keeps = λ e i. i;
      held_new = λ e i. inl i;
      held_all = λ e w i. absurd i;
      held_most = omega arith;
    }
    answered (e ∷ es) st held =
        let q = answered es (given e st) (holds r d held e) in
        let a = asks far r d es (given e st) (holds r d held e) in
        let u = given_puts e st in
        let v = hold_puts d held e (r.waits e) in
        record {
          keeps = λ n i. q.keeps n (u.keeps n i);
          new = λ n i. ⊎_elim (λ j. ⊎_elim (λ k. inl k) (λ (o, z). inr (e, inl refl, o, z)) (u.new n j)) (λ (f, k, o, z). inr (f, inr k, o, z)) (q.new n i);
          all = λ f. ⊎_elim
              (λ z. subst (λ v. Opens r d v → (d (far v) ≡ true) ⊎ In (far v) a.stack) (sym z) (λ o. ⊎_map (λ t. t) (λ j. q.keeps (far e) j) (given_own e st o)))
              (q.all f);
          most = omega (arith, q.most, u.most);
          held_keeps = λ f i. q.held_keeps f (v.keeps f i);
          held_new = λ f i. ⊎_elim (λ j. ⊎_elim (λ k. inl k) (λ (_, z). inr (inl z)) (v.new f j)) (λ j. inr (inr j)) (q.held_new f i);
          held_all = λ f w. ⊎_elim
              (λ z. subst (λ v. Waits r v w → d w ≡ false → In v a.held) (sym z) (λ p t. q.held_keeps e (hold_own d held e (r.waits e) w p t)))
              (q.held_all f w);
          held_most = omega (arith, q.held_most, v.most);
        }
