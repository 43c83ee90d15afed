-- What the states say of an edge that arrives. Assumes nothing.
use Rattle.std.proofs.Common.{◌≡◌, ℕ, zero, suc, ◌+◌, ◌<◌, ◌≤◌, Bool, true, false, cond, not, ◌&&◌, eqb, ◌⊎◌, List, [], ◌∷◌, ◌++◌, length, get_or, Some, None, filter, Option, sym, refl, ap, ◌∙◌, subst, inl, inr, true≢false, append-nil, arith, ◌≢◌}
use mathlib.Core.Bool.{and-true}
use Rattle.std.specs.List.{slice_get}
use Rattle.std.proofs.lemmas.Option.{slice_get-get_or, slice_get_past}
use Rattle.std.proofs.lemmas.Bool.{or_cases, or_left, or_right, and_parts, and_from, eqb-true, eq-eqb, false_from_ne_true}
use Rattle.std.proofs.lemmas.List.Elements.{filter-append}
use Rattle.theory.specs.Rules.{was_told, held_for}
use Rattle.buffers.specs.Rules.{links, waiting, wanted}
use Rattle.buffers.specs.Buffers.{Ref, Entry, meaning, is_out, state_of, told_by, waits_in, held_one, lying, held_in, Okay, Met}
use Rattle.index.specs.declared.links.Link.{Link}
use Rattle.theory.specs.Edges.{Edge}
use Rattle.index.specs.declared.records.FeatureEdge.{FeatureEdge}
use Rattle.index.specs.declared.links.EdgeLinks.{EdgeLinks}
use Rattle.index.specs.declared.links.EdgeLinks.TheVariants.{NonWeak, Weak}
use Rattle.buffers.specs.declared.states.SingleBufferState.{SingleBufferState}
use Rattle.buffers.specs.declared.states.SingleBufferState.TheVariants.{Buffered, Released}
use Rattle.buffers.specs.declared.states.Event.TheVariants.{Arrives}
use Rattle.buffers.specs.declared.states.Outcome.{Outcome}
use Rattle.buffers.specs.declared.states.Outcome.TheVariants.{Judges}

pub told_some : (nodes : List ℕ) (ss : List SingleBufferState) (w : ℕ) → told_by nodes ss w ≡ true → (j : ℕ) × (j < length nodes) × (get_or nodes j 0 ≡ w) × (is_out (state_of ss j) ≡ true)
told_some [] ss w t = absurd (true≢false (sym t))
told_some (n ∷ ns) [] w t = absurd (true≢false (sym t))
told_some (n ∷ ns) (s ∷ ss) w t = go (told_some ns ss w) (or_cases (eqb n w && is_out s) (told_by ns ss w) t)
  where
    go : (told_by ns ss w ≡ true → (j : ℕ) × (j < length ns) × (get_or ns j 0 ≡ w) × (is_out (state_of ss j) ≡ true)) → ((eqb n w && is_out s) ≡ true) ⊎ (told_by ns ss w ≡ true) → (j : ℕ) × (j < suc (length ns)) × (get_or (n ∷ ns) j 0 ≡ w) × (is_out (state_of (s ∷ ss) j) ≡ true)
    go below (inl u) = let p = and_parts (eqb n w) (is_out s) u in (zero, omega arith, eqb-true n w p.0, p.1)
    go below (inr u) = let p = below u in (suc p.0, omega (arith, p.1), p.2, p.3)

some_told : (nodes : List ℕ) (ss : List SingleBufferState) (w j : ℕ) → j < length nodes → get_or nodes j 0 ≡ w → is_out (state_of ss j) ≡ true → told_by nodes ss w ≡ true
some_told [] ss w j l e t = absurd (omega arith)
some_told (n ∷ ns) [] w j l e t = absurd (true≢false (sym t))
some_told (n ∷ ns) (s ∷ ss) w zero l e t = or_left _ _ (and_from (eqb n w) (is_out s) (eq-eqb n w e) t)
some_told (n ∷ ns) (s ∷ ss) w (suc j) l e t = or_right (eqb n w && is_out s) _ (some_told ns ss w j (omega arith) e t)

abbrev pub Agree : List ℕ → List SingleBufferState → Type 0
Agree nodes ss = (a b : ℕ) → a < length nodes → b < length nodes → get_or nodes a 0 ≡ get_or nodes b 0 → is_out (state_of ss a) ≡ is_out (state_of ss b)

-- a registered index speaks for its node
pub told_at : (nodes : List ℕ) (ss : List SingleBufferState) (i : ℕ) → i < length nodes → Agree nodes ss → told_by nodes ss (get_or nodes i 0) ≡ is_out (state_of ss i)
told_at nodes ss i l agree = go (is_out (state_of ss i)) refl
  where
    go : (b : Bool) → is_out (state_of ss i) ≡ b → told_by nodes ss (get_or nodes i 0) ≡ b
    go true e = some_told nodes ss (get_or nodes i 0) i l refl e
    go false e = false_from_ne_true _ (λ t. let p = told_some nodes ss (get_or nodes i 0) t in true≢false (sym p.3 ∙ agree p.0 i p.1 l p.2 ∙ e))

-- told depends on who is out only
pub told_ext : (nodes : List ℕ) (ss ss' : List SingleBufferState) → ((j : ℕ) → is_out (state_of ss' j) ≡ is_out (state_of ss j)) → told_by nodes ss' ≡ told_by nodes ss
told_ext nodes ss ss' h = λ t w. point w (told_by nodes ss w) refl t
  where
    point : (w : ℕ) (b : Bool) → told_by nodes ss w ≡ b → told_by nodes ss' w ≡ told_by nodes ss w
    point w true e = let p = told_some nodes ss w e in some_told nodes ss' w p.0 p.1 p.2 (h p.0 ∙ p.3) ∙ sym e
    point w false e = false_from_ne_true _ (λ t. let p = told_some nodes ss' w t in true≢false (sym (some_told nodes ss w p.0 p.1 p.2 (sym (h p.0) ∙ p.3)) ∙ e)) ∙ sym e

waits_ext : (ss ss' : List SingleBufferState) → ((j : ℕ) → is_out (state_of ss' j) ≡ is_out (state_of ss j)) → (l : Option EdgeLinks) → waits_in ss' l ≡ waits_in ss l
waits_ext ss ss' h None = refl
waits_ext ss ss' h (Some (NonWeak m)) = refl
waits_ext ss ss' h (Some (Weak q o i)) = ap not (h i.0)

cond_same : {X : Type 0} (a : Bool) (x : X) → cond a x x ≡ x
cond_same true x = refl
cond_same false x = refl

module _ (nodes : List ℕ) (ss : List SingleBufferState) (used : ℕ) (hold : List Entry) (e : Ref) (q : Option Link) (o : Link) (i : ℕ) (is : links (meaning e) ≡ Some (Weak q o (record { 0 = i }))) (ok : Okay nodes ss used hold) where
  waits_is : (acc : Link → Bool) → waiting acc nodes (links (meaning e)) ≡ cond (acc o) (slice_get nodes i) None
  waits_is acc = ap (waiting acc nodes) is

  -- what becomes of the edge: it is held, or it is not
  pub record Arrived (ss' : List SingleBufferState) (used' : ℕ) (hold' : List Entry) (judged : Bool) : Type 0 where
    pub okay : Okay nodes ss' used' hold'
    pub few : used' ≤ used + 1
    pub told : told_by nodes ss' ≡ told_by nodes ss
    pub answer : judged ≡ was_told (told_by nodes ss) (slice_get nodes i)
    pub held : (acc : Link → Bool) → held_in acc ss' used' hold' ≡ held_for (told_by nodes ss) (held_in acc ss used hold) (meaning e) (waiting acc nodes (links (meaning e)))

  pub unregistered : length nodes ≤ i → Arrived ss used hold false
  unregistered h = record {
    okay = ok;
    few = omega arith;
    told = refl;
    answer = sym (ap (was_told (told_by nodes ss)) (slice_get_past nodes i h));
    held = λ acc. sym (ap (held_for (told_by nodes ss) (held_in acc ss used hold) (meaning e)) (waits_is acc ∙ ap (λ v. cond (acc o) v None) (slice_get_past nodes i h) ∙ cond_same (acc o) None));
  }

  module _ (h : i < length nodes) where
    told_index : told_by nodes ss (get_or nodes i 0) ≡ is_out (state_of ss i)
    told_index = told_at nodes ss i h ok.agree

    at_told : was_told (told_by nodes ss) (slice_get nodes i) ≡ is_out (state_of ss i)
    at_told = ap (was_told (told_by nodes ss)) (slice_get-get_or nodes i 0 h) ∙ told_index

    at_held : (acc : Link → Bool) (held : List (Edge FeatureEdge)) (b : Bool) → is_out (state_of ss i) ≡ b → held_for (told_by nodes ss) held (meaning e) (waiting acc nodes (links (meaning e))) ≡ cond b held (held ++ cond (acc o) (meaning e ∷ []) [])
    at_held acc held b s = ap (held_for (told_by nodes ss) held (meaning e)) (waits_is acc ∙ ap (λ v. cond (acc o) v None) (slice_get-get_or nodes i 0 h)) ∙ go (acc o) b (told_index ∙ s)
      where
        go : (a b : Bool) → told_by nodes ss (get_or nodes i 0) ≡ b → held_for (told_by nodes ss) held (meaning e) (cond a (Some (get_or nodes i 0)) None) ≡ cond b held (held ++ cond a (meaning e ∷ []) [])
        go true true t = ap (λ x. cond x held (held ++ meaning e ∷ [])) t
        go true false t = ap (λ x. cond x held (held ++ meaning e ∷ [])) t
        go false true t = refl
        go false false t = sym (append-nil held)

    pub arrived : (ss' : List SingleBufferState) (used' : ℕ) (hold' : List Entry) (m : Outcome) (s : SingleBufferState) (room : used + 1 ≤ length hold') → state_of ss i ≡ s → Met i ss ss' used used' hold hold' s (Arrives e) m → (b : Bool) → (b ≡ true → m ≡ Judges) → (b ≡ false → m ≢ Judges) → Arrived ss' used' hold' b
    arrived ss' used' hold' m Released room s t false y n = absurd (n refl t.0)
    arrived ss' used' hold' m (Buffered c) room s t true y n = absurd (let z = y refl in let w = t.0 in cc)
    arrived ss' used' hold' m Released room s t true y n = record {
      okay = subst (λ v. Okay nodes v used' hold') (sym t.3) (subst (λ v. Okay nodes ss v hold') (sym t.1) (subst (λ v. Okay nodes ss used v) (sym t.2) ok));
      few = let b = t.1 in omega arith;
      told = ap (told_by nodes) t.3;
      answer = sym (at_told ∙ ap is_out s);
      held = λ acc. (λ j. held_in acc (t.3 j) (t.1 j) (t.2 j)) ∙ sym (at_held acc (held_in acc ss used hold) true (ap is_out s));
    }
    arrived ss' used' hold' m (Buffered c) room s t false y n = record {
      okay = record {
        long = t.1.long ∙ ok.long;
        fits = let b = t.1.more in omega arith;
        agree = λ a b la lb w. t.1.outs a ∙ ok.agree a b la lb w ∙ sym (t.1.outs b);
        chained = λ j l. t.1.chains j (ok.chained j l);
      };
      few = let b = t.1.more in omega arith;
      told = told_ext nodes ss ss' t.1.outs;
      answer = sym (at_told ∙ ap is_out s);
      held = λ acc. now acc ∙ sym (at_held acc (held_in acc ss used hold) false (ap is_out s));
    }
      where
        ones : (acc : Link → Bool) → held_one acc ss' ≡ held_one acc ss
        ones acc = λ j x. wanted acc (links x) && waits_ext ss ss' t.1.outs (links x) j

        one : (acc : Link → Bool) → held_one acc ss (meaning e) ≡ acc o
        one acc = ap (λ v. wanted acc v && waits_in ss v) is ∙ ap (λ v. acc o && not (is_out v)) s ∙ and-true (acc o)

        now : (acc : Link → Bool) → held_in acc ss' used' hold' ≡ held_in acc ss used hold ++ cond (acc o) (meaning e ∷ []) []
        now acc = (λ j. filter (ones acc j) (t.1.lies j)) ∙ filter-append (held_one acc ss) (lying used hold) (meaning e ∷ []) ∙ ap (λ b. held_in acc ss used hold ++ cond b (meaning e ∷ []) []) (one acc)
