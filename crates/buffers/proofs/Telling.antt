-- A node is told: how far the walk along its indexes has come, and what it comes to. Assumes nothing.
use Rattle.std.proofs.Common.{◌≡◌, ℕ, zero, suc, ◌+◌, ◌-◌, ◌<◌, ◌≤◌, Bool, true, false, cond, not, ◌&&◌, ◌||◌, eqb, List, [], ◌∷◌, ◌++◌, length, get_or, map, take, Some, None, filter, Option, sym, refl, ap, ◌∙◌, subst, true≢false, append-nil, arith, length-append}
use native.Mathlib.Decide.{dec_lt, ℕ_discrete}
use mathlib.Core.Bool.{and-true, and-false, or-true, or-false}
use lib.ListN.{length-map}
use Rattle.std.specs.List.{slice_get}
use Rattle.std.proofs.lemmas.Option.{slice_get-get_or, slice_get_past}
use Rattle.std.proofs.lemmas.Bool.{eqb-true, eq-eqb, ne_eqb}
use Rattle.std.proofs.lemmas.List.{length-take-le, take-append-le, map-append}
use Rattle.std.proofs.lemmas.List.Filters.{length-filter_both}
use Rattle.theory.specs.Rules.{is_node, waits_on, stays_at}
use Rattle.index.specs.declared.direction.DependencyDirection.{DependencyDirection}
use Rattle.index.specs.declared.direction.DependencyDirection.TheVariants.{Forward, Reverse}
use Rattle.filter.specs.Filters.{Discovers}
use Rattle.buffers.specs.Rules.{links, waiting, wanted, goes_out, freed, feature_rule}
use Rattle.buffers.specs.Buffers.{Ref, Entry, meaning, handed, is_out, state_of, told_by, waits_in, held_one, edge_of, lying, held_in, of_node, released, Void, Chained, Okay, Moved}
use Rattle.index.specs.declared.links.Link.{Link}
use Rattle.theory.specs.Edges.{Edge}
use Rattle.index.specs.declared.records.FeatureEdge.{FeatureEdge}
use Rattle.index.specs.declared.links.EdgeLinks.{EdgeLinks}
use Rattle.index.specs.declared.links.EdgeLinks.TheVariants.{NonWeak, Weak}
use Rattle.buffers.specs.declared.states.SingleBufferState.{SingleBufferState}
use Rattle.buffers.specs.declared.states.SingleBufferState.TheVariants.{Buffered, Released}
use Rattle.buffers.proofs.Arriving.{Agree, told_at}
use Rattle.buffers.proofs.Releasing.{kept_agree, kept_true, goes_held}
use Rattle.buffers.proofs.Fairness.{freed_each, feature_fair}

-- what the list of the indexes that a node releases says of its first, and of there being none
abbrev First : List ℕ → ℕ → ℕ → ℕ → ℕ → List ℕ → Type 0
First nodes n k end x xs = (k ≤ x) × (x < end) × (of_node nodes n x ≡ true) × Void (of_node nodes n) k x × (xs ≡ released nodes n (suc x) (end - suc x))

released_first : (nodes : List ℕ) (n k m x : ℕ) (xs : List ℕ) → released nodes n k m ≡ x ∷ xs → First nodes n k (k + m) x xs
released_first nodes n k zero x xs q = absurd cc
released_first nodes n k (suc m) x xs q = go (of_node nodes n k) refl (released_first nodes n (suc k) m x xs) q
  where
    go : (b : Bool) → of_node nodes n k ≡ b → (released nodes n (suc k) m ≡ x ∷ xs → First nodes n (suc k) (suc k + m) x xs) → cond b (k ∷ released nodes n (suc k) m) (released nodes n (suc k) m) ≡ x ∷ xs → First nodes n k (k + suc m) x xs
    go true e below q =
        let y : k ≡ x = cc in
        let r : released nodes n (suc k) m ≡ xs = cc in
        let z : m ≡ (k + suc m) - suc k = omega arith in
        (omega arith, omega arith, ap (of_node nodes n) (sym y) ∙ e, λ i a b. absurd (omega arith), sym r ∙ ap (released nodes n (suc k)) z ∙ ap (λ v. released nodes n (suc v) ((k + suc m) - suc v)) y)
    go false e below q = one (below q)
      where
        one : First nodes n (suc k) (suc k + m) x xs → First nodes n k (k + suc m) x xs
        one t =
            let z : (suc k + m) - suc x ≡ (k + suc m) - suc x = omega arith in
            (omega (arith, t.0), omega (arith, t.1), t.2, λ i a b. first i a (ℕ_discrete i k) b, t.4 ∙ ap (released nodes n (suc x)) z)
          where
            first : (i : ℕ) → k ≤ i → Dec (i ≡ k) → i < x → of_node nodes n i ≡ false
            first i a (yes y) b = ap (of_node nodes n) y ∙ e
            first i a (no z) b = t.3 i (omega arith) b

released_none : (nodes : List ℕ) (n k m : ℕ) → released nodes n k m ≡ [] → Void (of_node nodes n) k (k + m)
released_none nodes n k zero q = λ i a b. absurd (omega arith)
released_none nodes n k (suc m) q = go (of_node nodes n k) refl (released_none nodes n (suc k) m) q
  where
    go : (b : Bool) → of_node nodes n k ≡ b → (released nodes n (suc k) m ≡ [] → Void (of_node nodes n) (suc k) (suc k + m)) → cond b (k ∷ released nodes n (suc k) m) (released nodes n (suc k) m) ≡ [] → Void (of_node nodes n) k (k + suc m)
    go true e below q = absurd cc
    go false e below q = λ i a b. here i a (ℕ_discrete i k) b
      where
        here : (i : ℕ) → k ≤ i → Dec (i ≡ k) → i < k + suc m → of_node nodes n i ≡ false
        here i a (yes y) b = ap (of_node nodes n) y ∙ e
        here i a (no z) b = below q i (omega arith) (omega arith)

-- edges written behind those in the front of a hand-out table
pub handed_behind : (hand more rest : List Ref) (out r : ℕ) → out ≤ length hand → r ≤ length more → handed (out + r) (take out hand ++ (more ++ rest)) ≡ handed out hand ++ handed r more
handed_behind hand more rest out r low fits =
    ap (map meaning) (take_behind (take out hand) (more ++ rest) out r (length-take-le out hand low) ∙ ap (λ l. take out hand ++ l) (take-append-le r more rest fits)) ∙ map-append meaning (take out hand) (take r more)
  where
    take_behind : (xs ys : List Ref) (k r : ℕ) → length xs ≡ k → take (k + r) (xs ++ ys) ≡ xs ++ take r ys
    take_behind [] ys k r e = let z : k + r ≡ r = omega arith in ap (λ v. take v ys) z
    take_behind (x ∷ xs) ys zero r e = absurd (omega arith)
    take_behind (x ∷ xs) ys (suc k) r e =
        let z : suc k + r ≡ suc (k + r) = omega arith in
        ap (λ v. take v (x ∷ (xs ++ ys))) z ∙ ap (λ l. x ∷ l) (take_behind xs ys k r (omega arith))

module _ (acc : Link → Bool) (nodes : List ℕ) (n : ℕ) (held : List (Edge FeatureEdge)) where
  skips : (k m : ℕ) → Void (of_node nodes n) k (k + m) → freed acc nodes n held (k + m) ≡ freed acc nodes n held k
  skips k zero v = let e : k + 0 ≡ k = omega arith in ap (freed acc nodes n held) e
  skips k (suc m) v =
      let e : k + suc m ≡ suc (k + m) = omega arith in
      ap (freed acc nodes n held) e ∙ ap (λ b. freed acc nodes n held (k + m) ++ cond b (filter (goes_out acc (k + m)) held) []) (v (k + m) (omega arith) (omega arith)) ∙ append-nil (freed acc nodes n held (k + m)) ∙ skips k m (λ i a b. v i a (omega arith))

  skip_to : (k j : ℕ) → k ≤ j → Void (of_node nodes n) k j → freed acc nodes n held j ≡ freed acc nodes n held k
  skip_to k j h v = let e : k + (j - k) ≡ j = omega arith in subst (λ x. Void (of_node nodes n) k x → freed acc nodes n held x ≡ freed acc nodes n held k) e (λ w. skips k (j - k) w) v

  grows : (k m : ℕ) → length (freed acc nodes n held k) ≤ length (freed acc nodes n held (k + m))
  grows k zero = let e : k ≡ k + 0 = omega arith in let q = ap (λ x. length (freed acc nodes n held x)) e in omega arith
  grows k (suc m) =
      let e : k + suc m ≡ suc (k + m) = omega arith in
      let q = ap (λ x. length (freed acc nodes n held x)) e in
      let a = length-append (freed acc nodes n held (k + m)) (cond (eqb (get_or nodes (k + m) 0) n) (filter (goes_out acc (k + m)) held) []) in
      let r = grows k m in
      omega arith

  few : length (freed acc nodes n held (length nodes)) ≤ length held
  few =
      let a = freed_each acc nodes n (λ _. true) held in
      let b = ap length (kept_true (freed acc nodes n held (length nodes))) in
      let c = ap length (kept_true (filter (waits_on (feature_rule acc nodes Forward) n) held)) in
      let d = length-filter_both (waits_on (feature_rule acc nodes Forward) n) (stays_at (feature_rule acc nodes Forward) n) (λ e. refl) held in
      omega (arith, a, b, c, d)

  pub few_to : (k : ℕ) → k ≤ length nodes → length (freed acc nodes n held k) ≤ length held
  few_to k h =
      let e : k + (length nodes - k) ≡ length nodes = omega arith in
      let a = grows k (length nodes - k) in
      let b = ap (λ x. length (freed acc nodes n held x)) e in
      let c = few in
      omega arith

pub held_few : (acc : Link → Bool) (ss : List SingleBufferState) (used : ℕ) (hold : List Entry) → used ≤ length hold → length (held_in acc ss used hold) ≤ used
held_few acc ss used hold h =
    let a = length-filter_both (held_one acc ss) (λ e. not (held_one acc ss e)) (λ e. refl) (lying used hold) in
    let b = length-map (take used hold) edge_of in
    let c = length-take-le used hold h in
    omega (arith, a, b, c)

-- what an index lets out, where what it is let out of goes by other names
pub same_out : (acc acc₁ : Link → Bool) (ss : List SingleBufferState) (used used₁ : ℕ) (hold hold₁ : List Entry) (i : ℕ) → acc₁ ≡ acc → used₁ ≡ used → hold₁ ≡ hold → filter (goes_out acc₁ i) (held_in acc₁ ss used₁ hold₁) ≡ filter (goes_out acc i) (held_in acc ss used hold)
same_out acc acc₁ ss used used₁ hold hold₁ i a u h = λ j. filter (goes_out (a j) i) (held_in (a j) ss (u j) (h j))

-- the indexes below k are dealt with: those that n releases are released, and the others are as they were; `indexes` are
-- those still to come
pub record Telling (acc : Link → Bool) (nodes : List ℕ) (n : ℕ) (ss₀ : List SingleBufferState) (held₀ : List (Edge FeatureEdge)) (ss : List SingleBufferState) (hand : List Ref) (indexes : List ℕ) (out : ℕ) : Type 0 where
  pub k : ℕ
  pub below : k ≤ length nodes
  pub next : indexes ≡ released nodes n k (length nodes - k)
  pub goes : handed out hand ≡ freed acc nodes n held₀ k
  pub counts : out ≡ length (freed acc nodes n held₀ k)
  pub hit : (j : ℕ) → j < k → get_or nodes j 0 ≡ n → is_out (state_of ss j) ≡ true
  pub miss : (j : ℕ) → (j < k → get_or nodes j 0 ≡ n → ⊥) → state_of ss j ≡ state_of ss₀ j
  pub long : length ss ≡ length ss₀

module _ (acc : Link → Bool) (nodes : List ℕ) (n : ℕ) (ss₀ : List SingleBufferState) (used : ℕ) (hold : List Entry) where
  abbrev held₀ : List (Edge FeatureEdge)
  held₀ = held_in acc ss₀ used hold

  pub telling_start : (indexes : List ℕ) (hand : List Ref) → indexes ≡ released nodes n 0 (length nodes) → Telling acc nodes n ss₀ (held_in acc ss₀ used hold) ss₀ hand indexes 0
  telling_start indexes hand e = record {
    k = 0;
    below = omega arith;
    next = let z : length nodes ≡ length nodes - 0 = omega arith in e ∙ ap (released nodes n 0) z;
    goes = refl;
    counts = refl;
    hit = λ j h. absurd (omega arith);
    miss = λ j h. refl;
    long = refl;
  }

  module _ (ss : List SingleBufferState) (hand : List Ref) (indexes : List ℕ) (out : ℕ) (t : Telling acc nodes n ss₀ (held_in acc ss₀ used hold) ss hand indexes out) where
    module _ (i : ℕ) (rest : List ℕ) (q : indexes ≡ i ∷ rest) where
      here : (t.k ≤ i) × (i < t.k + (length nodes - t.k)) × (of_node nodes n i ≡ true) × Void (of_node nodes n) t.k i × (rest ≡ released nodes n (suc i) ((t.k + (length nodes - t.k)) - suc i))
      here = released_first nodes n t.k (length nodes - t.k) i rest (sym t.next ∙ q)

      index_ok : i < length nodes
      index_ok = let a = here.1 in let b = t.below in omega arith

      node_is : get_or nodes i 0 ≡ n
      node_is = eqb-true (get_or nodes i 0) n here.2

      state_is : state_of ss i ≡ state_of ss₀ i
      state_is = t.miss i (λ h e. let a = here.0 in omega arith)

      -- what the index lets out is what it held at first
      as_first : filter (goes_out acc i) (held_in acc ss used hold) ≡ filter (goes_out acc i) held₀
      as_first = kept_agree (goes_out acc i) (held_one acc ss) (held_one acc ss₀) (lying used hold) (λ x h. goes_held acc ss i x h ∙ ap (λ v. not (is_out v)) state_is ∙ sym (goes_held acc ss₀ i x h))

      freed_next : freed acc nodes n held₀ (i + 1) ≡ freed acc nodes n held₀ t.k ++ filter (goes_out acc i) held₀
      freed_next =
          let e : i + 1 ≡ suc i = omega arith in
          ap (freed acc nodes n held₀) e ∙ ap (λ v. freed acc nodes n held₀ i ++ cond v (filter (goes_out acc i) held₀) []) here.2
          ∙ ap (λ l. l ++ filter (goes_out acc i) held₀) (skip_to acc nodes n held₀ t.k i here.0 here.3)

      -- an index below this one that n releases was dealt with
      inside : (j : ℕ) → j < i → get_or nodes j 0 ≡ n → j < t.k
      inside j h e = go (dec_lt j t.k)
        where
          go : Dec (j < t.k) → j < t.k
          go (yes y) = y
          go (no w) = absurd (true≢false (sym (eq-eqb (get_or nodes j 0) n e) ∙ here.3 j (omega arith) h))

      index_chained : Okay nodes ss₀ used hold → Chained i used hold (state_of ss i)
      index_chained ok = subst (Chained i used hold) (sym state_is) (ok.chained i index_ok)

      index_room : (size : ℕ) → used ≤ length hold → used ≤ size → out + length (filter (goes_out acc i) (held_in acc ss used hold)) ≤ size
      index_room size f h =
          let a = ap length as_first in
          let b = ap length freed_next in
          let c = length-append (freed acc nodes n held₀ t.k) (filter (goes_out acc i) held₀) in
          let l = index_ok in
          let d = few_to acc nodes n held₀ (i + 1) (omega arith) in
          let e = held_few acc ss₀ used hold f in
          let g = t.counts in
          omega arith

      telling_more : (ss' : List SingleBufferState) (hand' : List Ref) (out' : ℕ) → Moved i ss ss' → handed out' hand' ≡ handed out hand ++ filter (goes_out acc i) (held_in acc ss used hold) → out' ≡ out + length (filter (goes_out acc i) (held_in acc ss used hold)) → Telling acc nodes n ss₀ (held_in acc ss₀ used hold) ss' hand' rest out'
      telling_more ss' hand' out' mv go co = record {
        k = i + 1;
        below = let l = index_ok in omega arith;
        next = let l = index_ok in let b = t.below in let e : suc i ≡ i + 1 = omega arith in let z : (t.k + (length nodes - t.k)) - suc i ≡ length nodes - (i + 1) = omega arith in here.4 ∙ (λ j. released nodes n (e j) (z j));
        goes = go ∙ (λ j. t.goes j ++ as_first j) ∙ sym freed_next;
        counts =
            let a = ap length as_first in
            let b = ap length freed_next in
            let c = length-append (freed acc nodes n held₀ t.k) (filter (goes_out acc i) held₀) in
            let g = t.counts in
            omega arith;
        hit = λ j h e. hits j h e (ℕ_discrete j i);
        miss = λ j h. misses j h (ℕ_discrete j i);
        long = mv.long ∙ t.long;
      }
        where
          hits : (j : ℕ) → j < i + 1 → get_or nodes j 0 ≡ n → Dec (j ≡ i) → is_out (state_of ss' j) ≡ true
          hits j h e (yes y) = ap (λ v. is_out (state_of ss' v)) y ∙ mv.out
          hits j h e (no z) = ap is_out (mv.others j z) ∙ t.hit j (inside j (omega arith) e) e

          misses : (j : ℕ) → (j < i + 1 → get_or nodes j 0 ≡ n → ⊥) → Dec (j ≡ i) → state_of ss' j ≡ state_of ss₀ j
          misses j h (yes y) = absurd (h (omega arith) (ap (λ v. get_or nodes v 0) y ∙ node_is))
          misses j h (no z) = mv.others j z ∙ t.miss j (λ a e. h (let b = here.0 in omega arith) e)

      -- an index is next: it is registered and has its chain, there is room for what it lets out, and once that is out and it is
      -- released, the telling goes on
      pub record Indexed (size : ℕ) : Type 0 where
        pub low : i < length nodes
        pub chained : Chained i used hold (state_of ss i)
        pub room : out + length (filter (goes_out acc i) (held_in acc ss used hold)) ≤ size
        pub more : (ss' : List SingleBufferState) (hand' : List Ref) (out' : ℕ) → Moved i ss ss' → handed out' hand' ≡ handed out hand ++ filter (goes_out acc i) (held_in acc ss used hold) → out' ≡ out + length (filter (goes_out acc i) (held_in acc ss used hold)) → Telling acc nodes n ss₀ (held_in acc ss₀ used hold) ss' hand' rest out'

      pub indexed : Okay nodes ss₀ used hold → (size : ℕ) → used ≤ size → Indexed size
      indexed ok size h = record { low = index_ok; chained = index_chained ok; room = index_room size ok.fits h; more = telling_more }

    module _ (z : indexes ≡ []) (ok : Okay nodes ss₀ used hold) where
      void : Void (of_node nodes n) t.k (length nodes)
      void =
          let b = t.below in
          let e : t.k + (length nodes - t.k) ≡ length nodes = omega arith in
          subst (Void (of_node nodes n) t.k) e (released_none nodes n t.k (length nodes - t.k) (sym t.next ∙ z))

      all : freed acc nodes n (held_in acc ss₀ used hold) (length nodes) ≡ freed acc nodes n (held_in acc ss₀ used hold) t.k
      all = skip_to acc nodes n (held_in acc ss₀ used hold) t.k (length nodes) t.below void

      hit : (j : ℕ) → j < length nodes → get_or nodes j 0 ≡ n → is_out (state_of ss j) ≡ true
      hit j h e = t.hit j (inside_all (dec_lt j t.k)) e
        where
          inside_all : Dec (j < t.k) → j < t.k
          inside_all (yes y) = y
          inside_all (no w) = absurd (true≢false (sym (eq-eqb (get_or nodes j 0) n e) ∙ void j (omega arith) h))

      agree : Agree nodes ss
      agree a b la lb e = go (ℕ_discrete (get_or nodes a 0) n)
        where
          go : Dec (get_or nodes a 0 ≡ n) → is_out (state_of ss a) ≡ is_out (state_of ss b)
          go (yes y) = hit a la y ∙ sym (hit b lb (sym e ∙ y))
          go (no w) = ap is_out (t.miss a (λ h q. w q)) ∙ ok.agree a b la lb e ∙ sym (ap is_out (t.miss b (λ h q. w (e ∙ q))))

      told_okay : Okay nodes ss used hold
      told_okay = record {
        long = t.long ∙ ok.long;
        fits = ok.fits;
        agree = agree;
        chained = λ i l. go i l (state_of ss i) refl (ℕ_discrete (get_or nodes i 0) n);
      }
        where
          go : (i : ℕ) → i < length nodes → (s : SingleBufferState) → state_of ss i ≡ s → Dec (get_or nodes i 0 ≡ n) → Chained i used hold (state_of ss i)
          go i l Released e d = subst (Chained i used hold) (sym e) tt
          go i l (Buffered c) e (yes y) = absurd (true≢false (sym (hit i l y) ∙ ap is_out e))
          go i l (Buffered c) e (no w) = subst (Chained i used hold) (sym (t.miss i (λ h q. w q))) (ok.chained i l)

      tells : (w j : ℕ) → j < length nodes → get_or nodes j 0 ≡ w → told_by nodes ss w ≡ (told_by nodes ss₀ w || eqb w n)
      tells w j l e = subst (λ v. told_by nodes ss v ≡ (told_by nodes ss₀ v || eqb v n)) e (go (ℕ_discrete (get_or nodes j 0) n))
        where
          go : Dec (get_or nodes j 0 ≡ n) → told_by nodes ss (get_or nodes j 0) ≡ (told_by nodes ss₀ (get_or nodes j 0) || eqb (get_or nodes j 0) n)
          go (yes y) =
              let q = eq-eqb (get_or nodes j 0) n y in
              told_at nodes ss j l agree ∙ hit j l y ∙ sym (ap (λ v. told_by nodes ss₀ (get_or nodes j 0) || v) q ∙ or-true _)
          go (no w') =
              let q = ne_eqb (get_or nodes j 0) n w' in
              told_at nodes ss j l agree ∙ ap is_out (t.miss j (λ h y. w' y)) ∙ sym (told_at nodes ss₀ j l ok.agree) ∙ sym (ap (λ v. told_by nodes ss₀ (get_or nodes j 0) || v) q ∙ or-false _)

      place_of : (w : ℕ) (l : Option EdgeLinks) → waiting acc nodes l ≡ Some w → (j : ℕ) × (j < length nodes) × (get_or nodes j 0 ≡ w)
      place_of w None e = absurd cc
      place_of w (Some (NonWeak m)) e = absurd cc
      place_of w (Some (Weak q o x)) e = go (acc o) (dec_lt x.0 (length nodes)) e
        where
          i : ℕ
          i = x.0

          go : (a : Bool) → Dec (i < length nodes) → cond a (slice_get nodes i) None ≡ Some w → (j : ℕ) × (j < length nodes) × (get_or nodes j 0 ≡ w)
          go false d v = absurd cc
          go true (no y) v = absurd (let p = slice_get_past nodes i (omega arith) in cc)
          go true (yes y) v = (i, y, let p = slice_get-get_or nodes i 0 y in cc)

      -- an edge is held after, exactly if it was held and does not wait on n
      one : (l : Option EdgeLinks) → (wanted acc l && waits_in ss l) ≡ ((wanted acc l && waits_in ss₀ l) && not (is_node n (waiting acc nodes l)))
      one None = refl
      one (Some (NonWeak m)) = refl
      one (Some (Weak q o x)) = go (acc o) (dec_lt x.0 (length nodes))
        where
          i : ℕ
          i = x.0

          known : i < length nodes → Dec (get_or nodes i 0 ≡ n) → not (is_out (state_of ss i)) ≡ (not (is_out (state_of ss₀ i)) && not (eqb (get_or nodes i 0) n))
          known l (yes y) =
              let b = eq-eqb (get_or nodes i 0) n y in
              ap not (hit i l y) ∙ sym (ap (λ v. not (is_out (state_of ss₀ i)) && not v) b ∙ and-false _)
          known l (no w) =
              let b = ne_eqb (get_or nodes i 0) n w in
              ap (λ v. not (is_out v)) (t.miss i (λ h y. w y)) ∙ sym (ap (λ v. not (is_out (state_of ss₀ i)) && not v) b ∙ and-true _)

          go : (a : Bool) → Dec (i < length nodes) → (a && not (is_out (state_of ss i))) ≡ ((a && not (is_out (state_of ss₀ i))) && not (is_node n (cond a (slice_get nodes i) None)))
          go false d = refl
          go true (yes y) = known y (ℕ_discrete (get_or nodes i 0) n) ∙ sym (ap (λ v. not (is_out (state_of ss₀ i)) && not (is_node n v)) (slice_get-get_or nodes i 0 y))
          go true (no w) = ap (λ v. not (is_out v)) (t.miss i (λ h y. absurd (let b = t.below in omega arith))) ∙ sym (ap (λ v. not (is_out (state_of ss₀ i)) && not (is_node n v)) (slice_get_past nodes i (omega arith)) ∙ and-true _)

      kept_both : (p q : Edge FeatureEdge → Bool) (xs : List (Edge FeatureEdge)) → filter q (filter p xs) ≡ filter (λ x. p x && q x) xs
      kept_both p q [] = refl
      kept_both p q (x ∷ xs) = go (p x) (kept_both p q xs)
        where
          go : (a : Bool) → filter q (filter p xs) ≡ filter (λ y. p y && q y) xs → filter q (cond a (x ∷ filter p xs) (filter p xs)) ≡ cond (a && q x) (x ∷ filter (λ y. p y && q y) xs) (filter (λ y. p y && q y) xs)
          go true r = ap (λ l. cond (q x) (x ∷ l) l) r
          go false r = r

      rest : held_in acc ss used hold ≡ filter (stays_at (feature_rule acc nodes Forward) n) (held_in acc ss₀ used hold)
      rest = (λ j. filter (λ x. one (links x) j) (lying used hold)) ∙ sym (kept_both (held_one acc ss₀) (stays_at (feature_rule acc nodes Forward) n) (lying used hold))

      told_all : Discovers (feature_rule acc nodes Forward) n (told_by nodes ss₀) (told_by nodes ss) (held_in acc ss₀ used hold) (held_in acc ss used hold) (handed out hand)
      told_all = record {
        tells = λ e w q. let p = place_of w (links e) q in tells w p.0 p.1 p.2;
        order = t.goes ∙ sym all;
        rest = rest;
        fair = feature_fair acc nodes Forward;
      }

      told_fits : (size : ℕ) → used ≤ size → out ≤ size
      told_fits size h = let a = t.counts in let b = few_to acc nodes n (held_in acc ss₀ used hold) t.k t.below in let c = held_few acc ss₀ used hold ok.fits in omega arith

      -- no index is left: the node is told
      pub record Told : Type 0 where
        pub okay : Okay nodes ss used hold
        pub all : Discovers (feature_rule acc nodes Forward) n (told_by nodes ss₀) (told_by nodes ss) (held_in acc ss₀ used hold) (held_in acc ss used hold) (handed out hand)
        pub fits : (size : ℕ) → used ≤ size → out ≤ size

      pub told : Told
      told = record { okay = told_okay; all = told_all; fits = told_fits }

module _ (acc : Link → Bool) (nodes : List ℕ) (d : DependencyDirection) (n : ℕ) (told : ℕ → Bool) (held : List (Edge FeatureEdge)) where
  -- in Reverse nothing waits
  pub back_none : d ≡ Reverse → Discovers (feature_rule acc nodes d) n told told held held []
  back_none q = subst (λ v. Discovers (feature_rule acc nodes v) n told told held held []) (sym q) (record {
    tells = λ e w i. absurd cc;
    order = refl;
    rest = sym (kept_true held);
    fair = feature_fair acc nodes Reverse;
  })

  pub ahead : (m : ℕ) (told' : ℕ → Bool) (held' out : List (Edge FeatureEdge)) → d ≡ Forward → m ≡ n → Discovers (feature_rule acc nodes Forward) m told told' held held' out → Discovers (feature_rule acc nodes d) n told told' held held' out
  ahead m told' held' out q e h =
      subst (λ v. Discovers (feature_rule acc nodes v) n told told' held held' out) (sym q) (subst (λ v. Discovers (feature_rule acc nodes Forward) v told told' held held' out) e h)
