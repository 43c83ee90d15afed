-- What an index makes of its release node being told. Assumes nothing.
use Rattle.std.proofs.Common.{◌≡◌, ℕ, zero, suc, ◌<◌, ◌≤◌, Bool, true, false, cond, not, ◌&&◌, eqb, ◌⊎◌, List, [], ◌∷◌, map, length, take, set, Some, None, filter, Option, sym, refl, ap, ◌∙◌, subst, inl, inr, true≢false, arith, length-set, get_or-set_other, get_or-set_same}
use Rattle.std.proofs.lemmas.Bool.{eqb-true}
use Rattle.std.proofs.lemmas.List.{length-take-le}
use Rattle.buffers.specs.Rules.{links, wanted, at_index, goes_out}
use Rattle.buffers.specs.Buffers.{Entry, edge_of, is_out, state_of, waits_in, held_one, lying, held_in, at_place, next_of, Next, Linked, Chained, Met, Moved}
use Rattle.index.specs.declared.links.Link.{Link}
use Rattle.theory.specs.Edges.{Edge}
use Rattle.index.specs.declared.records.FeatureEdge.{FeatureEdge}
use Rattle.index.specs.declared.links.EdgeLinks.{EdgeLinks}
use Rattle.index.specs.declared.links.EdgeLinks.TheVariants.{NonWeak, Weak}
use Rattle.buffers.specs.declared.states.Chain.{Chain}
use Rattle.buffers.specs.declared.states.SingleBufferState.{SingleBufferState}
use Rattle.buffers.specs.declared.states.SingleBufferState.TheVariants.{Buffered, Released}
use Rattle.buffers.specs.declared.states.Event.TheVariants.{Told}
use Rattle.buffers.specs.declared.states.Outcome.{Outcome}
use Rattle.buffers.specs.declared.states.Outcome.TheVariants.{Holds, Judges, Frees, Nothing}
use Rattle.buffers.proofs.Chaining.{next_same}
use Rattle.buffers.proofs.Following.{skip_to}

-- two sieves that agree on what p lets through
pub kept_agree : {X : Type 0} (p q r : X → Bool) (xs : List X) → ((x : X) → p x ≡ true → q x ≡ r x) → filter p (filter q xs) ≡ filter p (filter r xs)
kept_agree p q r [] h = refl
kept_agree {X} p q r (x ∷ xs) h = go (kept_agree p q r xs h) (p x) refl (q x) (r x) (h x)
  where
    go : filter p (filter q xs) ≡ filter p (filter r xs) → (a : Bool) → p x ≡ a → (b c : Bool) → (p x ≡ true → b ≡ c) → filter p (cond b (x ∷ filter q xs) (filter q xs)) ≡ filter p (cond c (x ∷ filter r xs) (filter r xs))
    go rec true e b c k = ap (λ v. filter p (cond v (x ∷ filter q xs) (filter q xs))) (k e) ∙ each c
      where
        each : (c : Bool) → filter p (cond c (x ∷ filter q xs) (filter q xs)) ≡ filter p (cond c (x ∷ filter r xs) (filter r xs))
        each true = ap (λ l. cond (p x) (x ∷ l) l) rec
        each false = rec
    go rec false e b c k = drop b (filter q xs) ∙ rec ∙ sym (drop c (filter r xs))
      where
        drop : (b : Bool) (l : List X) → filter p (cond b (x ∷ l) l) ≡ filter p l
        drop true l = ap (λ v. cond v (x ∷ filter p l) (filter p l)) e
        drop false l = refl

pub kept_true : {X : Type 0} (xs : List X) → filter (λ _. true) xs ≡ xs
kept_true [] = refl
kept_true (x ∷ xs) = ap (λ l. x ∷ l) (kept_true xs)

pub kept_false : {X : Type 0} (xs : List X) → filter (λ _. false) xs ≡ []
kept_false [] = refl
kept_false (x ∷ xs) = kept_false xs

-- an edge that goes out at index i is held exactly if the index is not released
pub goes_held : (acc : Link → Bool) (ss : List SingleBufferState) (i : ℕ) (e : Edge FeatureEdge) → goes_out acc i e ≡ true → held_one acc ss e ≡ not (is_out (state_of ss i))
goes_held acc ss i e h = go (links e) h
  where
    go : (l : Option EdgeLinks) → (at_index i l && wanted acc l) ≡ true → (wanted acc l && waits_in ss l) ≡ not (is_out (state_of ss i))
    go None z = absurd (true≢false (sym z))
    go (Some (NonWeak m)) z = absurd (true≢false (sym z))
    go (Some (Weak q o x)) z = step (eqb x.0 i) refl (acc o) z
      where
        step : (a : Bool) → eqb x.0 i ≡ a → (b : Bool) → (a && b) ≡ true → (b && not (is_out (state_of ss x.0))) ≡ not (is_out (state_of ss i))
        step true y true w = ap (λ v. not (is_out (state_of ss v))) (eqb-true x.0 i y)
        step true y false w = absurd (true≢false (sym w))
        step false y b w = absurd (true≢false (sym w))

-- the front of a table, taken by itself, has the same places and links
at_front : (i n : ℕ) (hold : List Entry) (k : ℕ) → k < n → at_place i (take n hold) k ≡ at_place i hold k
at_front i zero hold k l = absurd (omega arith)
at_front i (suc n) [] k l = refl
at_front i (suc n) (h ∷ hs) zero l = refl
at_front i (suc n) (h ∷ hs) (suc k) l = at_front i n hs k (omega arith)

next_front : (n : ℕ) (hold : List Entry) (k : ℕ) → k < n → next_of (take n hold) k ≡ next_of hold k
next_front zero hold k l = absurd (omega arith)
next_front (suc n) [] k l = refl
next_front (suc n) (h ∷ hs) zero l = refl
next_front (suc n) (h ∷ hs) (suc k) l = next_front n hs k (omega arith)

-- a chain can be followed in the front of the table alone
pub chain_in_front : (i used first : ℕ) (hold : List Entry) → used ≤ length hold → Next (at_place i hold) used 0 (Some first) → Linked i used hold → Next (at_place i (take used hold)) (length (take used hold)) 0 (Some first) × Linked i (length (take used hold)) (take used hold)
chain_in_front i used first hold fits n l = subst (λ m. Next (at_place i (take used hold)) m 0 (Some first) × Linked i m (take used hold)) (sym (length-take-le used hold fits)) (
  next_same (at_place i hold) (at_place i (take used hold)) used (at_front i used hold) 0 (Some first) n,
  λ k h t. next_same (at_place i hold) (at_place i (take used hold)) used (at_front i used hold) (suc k) (next_of (take used hold) k) (subst (Next (at_place i hold) used (suc k)) (sym (next_front used hold k h)) (l k h (sym (at_front i used hold k h) ∙ t))),
)

module _ (acc : Link → Bool) (i : ℕ) (ss ss' : List SingleBufferState) (used used' : ℕ) (hold hold' : List Entry) (m : Outcome) (small : i < length ss) where
  -- the index was told of its node: it is released, and the table is as it was
  pub record Left : Type 0 where
    pub same : (used' ≡ used) × (hold' ≡ hold)
    pub moved : Moved i ss ss'

  -- and what lies there for it, along its links, goes out
  pub record Opened (first : ℕ) : Type 0 where
    pub left : Left
    pub chain : Next (at_place i (take used' hold')) (length (take used' hold')) 0 (Some first) × Linked i (length (take used' hold')) (take used' hold')
    pub whole : filter (goes_out acc i) (map edge_of (take used' hold')) ≡ filter (goes_out acc i) (held_in acc ss used hold)

  -- what counts as held of an index that is not released is all that lies there
  all_held : (c : Option Chain) → state_of ss i ≡ Buffered c → filter (goes_out acc i) (held_in acc ss used hold) ≡ filter (goes_out acc i) (lying used hold)
  all_held c s = kept_agree (goes_out acc i) (held_one acc ss) (λ _. true) (lying used hold) (λ x h. goes_held acc ss i x h ∙ ap (λ v. not (is_out v)) s) ∙ ap (filter (goes_out acc i)) (kept_true (lying used hold))

  moves_on : (used' ≡ used) × (hold' ≡ hold) × (ss' ≡ set ss i Released) → Left
  moves_on t = record {
    same = (t.0, t.1);
    moved = record {
      long = ap length t.2 ∙ length-set ss i Released;
      out = ap (λ v. is_out (state_of v i)) t.2 ∙ ap is_out (get_or-set_same ss i Released (Buffered None) small);
      others = λ j n. ap (λ v. state_of v j) t.2 ∙ get_or-set_other ss i j Released (Buffered None) n;
    };
  }

  pub told_frees : (s : SingleBufferState) (first : ℕ) → used ≤ length hold → state_of ss i ≡ s → Chained i used hold s → Met i ss ss' used used' hold hold' s Told m → m ≡ Frees first → Opened first
  told_frees Released first fits s c t is = absurd (let y = t.0 in cc)
  told_frees (Buffered None) first fits s c t is = absurd (let y = t.0 in cc)
  told_frees (Buffered (Some d)) first fits s c t is = record {
    left = moves_on (t.1, t.2, t.3);
    chain =
        let y = t.0 in
        let e : d.first ≡ first = cc in
        let n = subst (λ v. Next (at_place i hold) used 0 (Some v)) e c.0 in
        subst (λ l. Next (at_place i l) (length l) 0 (Some first) × Linked i (length l) l) (sym front) (chain_in_front i used first hold fits n c.2);
    whole = ap (λ l. filter (goes_out acc i) (map edge_of l)) front ∙ sym (all_held (Some d) s);
  }
    where
      front : take used' hold' ≡ take used hold
      front = λ j. take (t.1 j) (t.2 j)

  pub told_otherwise : (s : SingleBufferState) → used ≤ length hold → state_of ss i ≡ s → Chained i used hold s → Met i ss ss' used used' hold hold' s Told m → (m ≡ Holds) ⊎ ((m ≡ Judges) ⊎ (m ≡ Nothing)) → Left × (filter (goes_out acc i) (held_in acc ss used hold) ≡ [])
  told_otherwise (Buffered (Some d)) fits s c t (inl q) = absurd (let y = t.0 in cc)
  told_otherwise (Buffered (Some d)) fits s c t (inr (inl q)) = absurd (let y = t.0 in cc)
  told_otherwise (Buffered (Some d)) fits s c t (inr (inr q)) = absurd (let y = t.0 in cc)
  told_otherwise (Buffered None) fits s c t q = (moves_on (t.1, t.2, t.3), all_held None s ∙ skip_to acc hold i 0 used (omega arith) fits c)
  told_otherwise Released fits s c t q = (
    record {
      same = (t.1, t.2);
      moved = record { long = ap length t.3; out = ap (λ v. is_out (state_of v i)) t.3 ∙ ap is_out s; others = λ j n. ap (λ v. state_of v j) t.3 };
    },
    kept_agree (goes_out acc i) (held_one acc ss) (λ _. false) (lying used hold) (λ x h. goes_held acc ss i x h ∙ ap (λ v. not (is_out v)) s) ∙ ap (filter (goes_out acc i)) (kept_false (lying used hold)),
  )
