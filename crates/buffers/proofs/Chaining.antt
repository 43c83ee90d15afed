-- Chains of places, and an edge that joins its chain. Assumes nothing.
use Rattle.std.proofs.Common.{◌≡◌, ℕ, zero, suc, ◌+◌, ◌<◌, ◌≤◌, Bool, true, false, ◌≢◌, List, [], ◌∷◌, ◌++◌, map, length, get_or, take, set, Some, None, Option, sym, refl, ap, ◌∙◌, subst, true≢false, arith, length-set, get_or-set_other, get_or-set_same}
use native.Mathlib.Decide.{dec_lt, ℕ_discrete}
use Rattle.std.proofs.lemmas.Bool.{eqb-true, false_from_ne_true}
use Rattle.std.proofs.lemmas.List.{take_more_set, take_more, map-append}
use Rattle.buffers.specs.Rules.{links, at_index}
use Rattle.buffers.specs.Buffers.{Ref, Entry, meaning, is_out, state_of, edge_of, lying, at_place, next_of, Void, Next, Last, Linked, Chained, extended, linked_with, relinked, Ready, Joins, Met}
use Rattle.std.specs.Option.{MatchOption}
use Rattle.index.specs.declared.links.EdgeLinks.{EdgeLinks}
use Rattle.index.specs.declared.links.EdgeLinks.TheVariants.{NonWeak, Weak}
use Rattle.buffers.specs.declared.states.Chain.{Chain}
use Rattle.buffers.specs.declared.states.SingleBufferState.{SingleBufferState}
use Rattle.buffers.specs.declared.states.SingleBufferState.TheVariants.{Buffered, Released}
use Rattle.buffers.specs.declared.states.Event.{Event}
use Rattle.buffers.specs.declared.states.Event.TheVariants.{Arrives}
use Rattle.buffers.specs.declared.states.Outcome.TheVariants.{Holds}

at_set_same : (i : ℕ) (hold : List Entry) (k : ℕ) (h : Entry) → k < length hold → at_place i (set hold k h) k ≡ at_index i (links (edge_of h))
at_set_same i [] k h l = absurd (omega arith)
at_set_same i (x ∷ xs) zero h l = refl
at_set_same i (x ∷ xs) (suc k) h l = at_set_same i xs k h (omega arith)

at_set_other : (i : ℕ) (hold : List Entry) (k m : ℕ) (h : Entry) → m ≢ k → at_place i (set hold k h) m ≡ at_place i hold m
at_set_other i [] k m h n = refl
at_set_other i (x ∷ xs) zero zero h n = absurd (n refl)
at_set_other i (x ∷ xs) zero (suc m) h n = refl
at_set_other i (x ∷ xs) (suc k) zero h n = refl
at_set_other i (x ∷ xs) (suc k) (suc m) h n = at_set_other i xs k m h (λ e. n (ap suc e))

next_set_same : (hold : List Entry) (k : ℕ) (h : Entry) → k < length hold → next_of (set hold k h) k ≡ h.next
next_set_same [] k h l = absurd (omega arith)
next_set_same (x ∷ xs) zero h l = refl
next_set_same (x ∷ xs) (suc k) h l = next_set_same xs k h (omega arith)

next_set_other : (hold : List Entry) (k m : ℕ) (h : Entry) → m ≢ k → next_of (set hold k h) m ≡ next_of hold m
next_set_other [] k m h n = refl
next_set_other (x ∷ xs) zero zero h n = absurd (n refl)
next_set_other (x ∷ xs) zero (suc m) h n = refl
next_set_other (x ∷ xs) (suc k) zero h n = refl
next_set_other (x ∷ xs) (suc k) (suc m) h n = next_set_other xs k m h (λ e. n (ap suc e))

pub at_read : (i : ℕ) (hold : List Entry) (k : ℕ) (h : Entry) → k < length hold → h ≡ get_or hold k h → at_place i hold k ≡ at_index i (links (edge_of h))
at_read i [] k h l e = absurd (omega arith)
at_read i (x ∷ xs) zero h l e = ap (λ v. at_index i (links (edge_of v))) (sym e)
at_read i (x ∷ xs) (suc k) h l e = at_read i xs k h (omega arith) e

pub next_read : (hold : List Entry) (k : ℕ) (h : Entry) → k < length hold → h ≡ get_or hold k h → next_of hold k ≡ h.next
next_read [] k h l e = absurd (omega arith)
next_read (x ∷ xs) zero h l e = ap (λ v. v.next) (sym e)
next_read (x ∷ xs) (suc k) h l e = next_read xs k h (omega arith) e

lying_set : (hold : List Entry) (used : ℕ) (h : Entry) → used < length hold → lying (used + 1) (set hold used h) ≡ lying used hold ++ edge_of h ∷ []
lying_set hold used h l = ap (map edge_of) (take_more_set hold used h l) ∙ map-append edge_of (take used hold) (h ∷ [])

pub lying_more : (hold : List Entry) (k : ℕ) (h : Entry) → k < length hold → h ≡ get_or hold k h → lying (k + 1) hold ≡ lying k hold ++ edge_of h ∷ []
lying_more hold k h l e = ap (map edge_of) (take_more hold k h l) ∙ map-append edge_of (take k hold) (get_or hold k h ∷ []) ∙ ap (λ v. lying k hold ++ edge_of v ∷ []) (sym e)

-- a link changes neither the edges nor how many entries there are, and of the links it changes one
lying_linked : (n p k : ℕ) (hold : List Entry) → lying n (linked_with p k hold) ≡ lying n hold
lying_linked zero p k hold = refl
lying_linked (suc n) p k [] = refl
lying_linked (suc n) p zero (x ∷ xs) = refl
lying_linked (suc n) p (suc k) (x ∷ xs) = ap (λ v. edge_of x ∷ v) (lying_linked n p k xs)

at_linked : (i p k : ℕ) (hold : List Entry) (m : ℕ) → at_place i (linked_with p k hold) m ≡ at_place i hold m
at_linked i p k [] m = refl
at_linked i p zero (x ∷ xs) zero = refl
at_linked i p zero (x ∷ xs) (suc m) = refl
at_linked i p (suc k) (x ∷ xs) zero = refl
at_linked i p (suc k) (x ∷ xs) (suc m) = at_linked i p k xs m

next_linked_same : (p k : ℕ) (hold : List Entry) → k < length hold → next_of (linked_with p k hold) k ≡ Some p
next_linked_same p k [] l = absurd (omega arith)
next_linked_same p zero (x ∷ xs) l = refl
next_linked_same p (suc k) (x ∷ xs) l = next_linked_same p k xs (omega arith)

next_linked_other : (p k : ℕ) (hold : List Entry) (m : ℕ) → m ≢ k → next_of (linked_with p k hold) m ≡ next_of hold m
next_linked_other p k [] m n = refl
next_linked_other p zero (x ∷ xs) zero n = absurd (n refl)
next_linked_other p zero (x ∷ xs) (suc m) n = refl
next_linked_other p (suc k) (x ∷ xs) zero n = refl
next_linked_other p (suc k) (x ∷ xs) (suc m) n = next_linked_other p k xs m (λ e. n (ap suc e))

pub set_linked : (p k : ℕ) (hold : List Entry) (d : Entry) → k < length hold → set hold k (record { edge = (get_or hold k d).edge; next = Some p }) ≡ linked_with p k hold
set_linked p k [] d l = absurd (omega arith)
set_linked p zero (x ∷ xs) d l = refl
set_linked p (suc k) (x ∷ xs) d l = ap (λ v. x ∷ v) (set_linked p k xs d (omega arith))

-- a test b that is a below n
module _ (a b : ℕ → Bool) (n : ℕ) (same : (k : ℕ) → k < n → b k ≡ a k) where
  void_same : (k m : ℕ) → m ≤ n → Void a k m → Void b k m
  void_same k m h v = λ i x y. same i (omega arith) ∙ v i x y

  void_more : (k : ℕ) → b n ≡ false → Void a k n → Void b k (n + 1)
  void_more k z v = λ i x y. go i x y (ℕ_discrete i n)
    where
      go : (i : ℕ) → k ≤ i → i < n + 1 → Dec (i ≡ n) → b i ≡ false
      go i x y (yes e) = ap b e ∙ z
      go i x y (no q) = same i (omega arith) ∙ v i x (omega arith)

  pub next_same : (k : ℕ) (o : Option ℕ) → Next a n k o → Next b n k o
  next_same k None t = void_same k n (omega arith) t
  next_same k (Some j) t = (t.0, t.1, same j t.1 ∙ t.2, void_same k j (omega (arith, t.1)) t.3)

  next_some : (k j : ℕ) → Next a n k (Some j) → Next b (n + 1) k (Some j)
  next_some k j t = (t.0, omega (arith, t.1), same j t.1 ∙ t.2, void_same k j (omega (arith, t.1)) t.3)

  next_other : (k : ℕ) (o : Option ℕ) → b n ≡ false → Next a n k o → Next b (n + 1) k o
  next_other k None z t = void_more k z t
  next_other k (Some j) z t = next_some k j t

  next_new : (k : ℕ) → b n ≡ true → k ≤ n → Void a k n → Next b (n + 1) k (Some n)
  next_new k y h v = (h, omega arith, y, void_same k n (omega arith) v)

  last_other : (l : ℕ) → b n ≡ false → Last a n l → Last b (n + 1) l
  last_other l z t = (omega (arith, t.0), same l t.0 ∙ t.1, void_more (suc l) z t.2)

  last_new : b n ≡ true → Last b (n + 1) n
  last_new y = (omega arith, y, λ i h m. absurd (omega arith))

void_not : (a : ℕ → Bool) (k n i : ℕ) → Void a k n → k ≤ i → i < n → a i ≡ true → ⊥
void_not a k n i v h m t = true≢false (sym t ∙ v i h m)

-- the place with nothing after it is the last
last_is : (a : ℕ → Bool) (n l k : ℕ) → Last a n l → k < n → a k ≡ true → Void a (suc k) n → l ≡ k
last_is a n l k t h y w = go (dec_lt k l) (dec_lt l k)
  where
    go : Dec (k < l) → Dec (l < k) → l ≡ k
    go (yes p) q = absurd (void_not a (suc k) n l w p t.0 t.1)
    go (no p) (yes q) = absurd (void_not a (suc l) n k t.2 q h y)
    go (no p) (no q) = omega arith

last_not : (a : ℕ → Bool) (n l k j : ℕ) → Last a n l → Next a n (suc k) (Some j) → l ≢ k
last_not a n l k j t w e = void_not a (suc l) n j t.2 (omega (arith, w.0)) w.1 w.2

pub at_one : (i j : ℕ) (l : Option EdgeLinks) → at_index i l ≡ true → at_index j l ≡ true → i ≡ j
at_one i j None x y = absurd (true≢false (sym x))
at_one i j (Some (NonWeak m)) x y = absurd (true≢false (sym x))
at_one i j (Some (Weak q o k)) x y = sym (eqb-true k.0 i x) ∙ eqb-true k.0 j y

place_one : (i j : ℕ) (hold : List Entry) (k : ℕ) → at_place i hold k ≡ true → at_place j hold k ≡ true → i ≡ j
place_one i j [] k x y = absurd (true≢false (sym x))
place_one i j (h ∷ hs) zero x y = at_one i j (links (edge_of h)) x y
place_one i j (h ∷ hs) (suc k) x y = place_one i j hs k x y

module _ (hold : List Entry) (used : ℕ) (e : Ref) (room : used < length hold) where
  abbrev behind : List Entry
  behind = set hold used (record { edge = e; next = None })

  -- an edge is written behind all that lie in the table, and a chain is linked with it
  abbrev now : Option Chain → List Entry
  now chain = relinked used chain behind

  abbrev Apart : Option Chain → ℕ → Type 0
  Apart chain k = (c : Chain) → chain ≡ Some c → c.last ≢ k

  below : (chain : Option Chain) (j k : ℕ) → k < used → at_place j (now chain) k ≡ at_place j hold k
  below None j k lt = at_set_other j hold used k _ (omega arith)
  below (Some c) j k lt = at_linked j used c.last behind k ∙ at_set_other j hold used k _ (omega arith)

  new : (chain : Option Chain) (j : ℕ) → at_place j (now chain) used ≡ at_index j (links (meaning e))
  new None j = at_set_same j hold used _ room
  new (Some c) j = at_linked j used c.last behind used ∙ at_set_same j hold used _ room

  others : (chain : Option Chain) (k : ℕ) → k < used → Apart chain k → next_of (now chain) k ≡ next_of hold k
  others None k lt n = next_set_other hold used k _ (omega arith)
  others (Some c) k lt n = next_linked_other used c.last behind k (λ q. n c refl (sym q)) ∙ next_set_other hold used k _ (omega arith)

  end : (chain : Option Chain) → Apart chain used → next_of (now chain) used ≡ None
  end None n = next_set_same hold used _ room
  end (Some c) n = next_linked_other used c.last behind used (λ q. n c refl (sym q)) ∙ next_set_same hold used _ room

  before : (c : Chain) → c.last < used → next_of (now (Some c)) c.last ≡ Some used
  before c lt = let b = length-set hold used (record { edge = e; next = None }) in next_linked_same used c.last behind (omega arith)

  lies : (chain : Option Chain) → lying (used + 1) (now chain) ≡ lying used hold ++ meaning e ∷ []
  lies None = lying_set hold used _ room
  lies (Some c) = lying_linked (used + 1) used c.last behind ∙ lying_set hold used _ room

  module _ (i : ℕ) (at : at_index i (links (meaning e)) ≡ true) where
    -- the index that the edge has
    own : (chain : Option Chain) → Chained i used hold (Buffered chain) → Chained i (used + 1) (now chain) (Buffered (Some (extended used chain)))
    own None v = (
      next_new (at_place i hold) (at_place i (now None)) used (below None i) 0 (new None i ∙ at) (omega arith) v,
      last_new (at_place i hold) (at_place i (now None)) used (below None i) (new None i ∙ at),
      λ k h t. link k h t (ℕ_discrete k used),
    )
      where
        link : (k : ℕ) → k < used + 1 → at_place i (now None) k ≡ true → Dec (k ≡ used) → Next (at_place i (now None)) (used + 1) (suc k) (next_of (now None) k)
        link k h t (yes y) = subst (Next (at_place i (now None)) (used + 1) (suc k)) (sym (ap (next_of (now None)) y ∙ end None (λ c q. absurd cc))) (λ m x z. absurd (omega arith))
        link k h t (no z) = let s : k < used = omega arith in absurd (void_not (at_place i hold) 0 used k v (omega arith) s (sym (below None i k s) ∙ t))
    own (Some c) w = (
      next_some (at_place i hold) (at_place i (now (Some c))) used (below (Some c) i) 0 c.first w.0,
      last_new (at_place i hold) (at_place i (now (Some c))) used (below (Some c) i) (new (Some c) i ∙ at),
      λ k h t. link k h t (ℕ_discrete k used),
    )
      where
        far : Apart (Some c) used
        far d q z = let y : c ≡ d = cc in let x = ap (λ v. v.last) y in let l = w.1.0 in omega arith

        after : (k : ℕ) (o : Option ℕ) → k < used → at_place i hold k ≡ true → next_of hold k ≡ o → Next (at_place i (now (Some c))) (used + 1) (suc k) (next_of (now (Some c)) k)
        after k None s t q =
            let v = subst (Next (at_place i hold) used (suc k)) q (w.2 k s t) in
            let z = last_is (at_place i hold) used c.last k w.1 s t v in
            subst (Next (at_place i (now (Some c))) (used + 1) (suc k)) (sym (ap (next_of (now (Some c))) (sym z) ∙ before c w.1.0)) (next_new (at_place i hold) (at_place i (now (Some c))) used (below (Some c) i) (suc k) (new (Some c) i ∙ at) s v)
        after k (Some j) s t q =
            let v = subst (Next (at_place i hold) used (suc k)) q (w.2 k s t) in
            let n = last_not (at_place i hold) used c.last k j w.1 v in
            subst (Next (at_place i (now (Some c))) (used + 1) (suc k)) (sym (others (Some c) k s (λ d y x. n (let z : c ≡ d = cc in ap (λ u. u.last) z ∙ x)) ∙ q)) (next_some (at_place i hold) (at_place i (now (Some c))) used (below (Some c) i) (suc k) j v)

        link : (k : ℕ) → k < used + 1 → at_place i (now (Some c)) k ≡ true → Dec (k ≡ used) → Next (at_place i (now (Some c))) (used + 1) (suc k) (next_of (now (Some c)) k)
        link k h t (yes y) = subst (Next (at_place i (now (Some c))) (used + 1) (suc k)) (sym (ap (next_of (now (Some c))) y ∙ end (Some c) far)) (λ m x z. absurd (omega arith))
        link k h t (no z) = let s : k < used = omega arith in after k (next_of hold k) s (sym (below (Some c) i k s) ∙ t) refl

    module _ (chain : Option Chain) (mine : Chained i used hold (Buffered chain)) where
      -- the last place of the index's chain is of no other index
      at_last : (c : Chain) → chain ≡ Some c → at_place i hold c.last ≡ true
      at_last c q = (subst (λ v. Chained i used hold (Buffered v)) q mine).1.1

      foreign : (j : ℕ) → j ≢ i → (s : SingleBufferState) → Chained j used hold s → Chained j (used + 1) (now chain) s
      foreign j n s c = go s c
        where
          none : at_place j (now chain) used ≡ false
          none = false_from_ne_true (at_place j (now chain) used) (λ t. n (at_one j i (links (meaning e)) (sym (new chain j) ∙ t) at))

          link : Linked j used hold → (k : ℕ) → k < used + 1 → at_place j (now chain) k ≡ true → Dec (k ≡ used) → Next (at_place j (now chain)) (used + 1) (suc k) (next_of (now chain) k)
          link l k h t (yes y) = absurd (true≢false (sym t ∙ ap (at_place j (now chain)) y ∙ none))
          link l k h t (no z) =
              let s : k < used = omega arith in
              let u : at_place j hold k ≡ true = sym (below chain j k s) ∙ t in
              let q = others chain k s (λ d y x. n (place_one j i hold k u (ap (at_place i hold) (sym x) ∙ at_last d y))) in
              subst (Next (at_place j (now chain)) (used + 1) (suc k)) (sym q) (next_other (at_place j hold) (at_place j (now chain)) used (below chain j) (suc k) (next_of hold k) none (l k s u))

          go : (s : SingleBufferState) → Chained j used hold s → Chained j (used + 1) (now chain) s
          go Released c = tt
          go (Buffered None) c = void_more (at_place j hold) (at_place j (now chain)) used (below chain j) 0 none c
          go (Buffered (Some d)) c = (
            next_other (at_place j hold) (at_place j (now chain)) used (below chain j) 0 (Some d.first) none c.0,
            last_other (at_place j hold) (at_place j (now chain)) used (below chain j) d.last none c.1,
            λ k h t. link c.2 k h t (ℕ_discrete k used),
          )

      module _ (ss : List SingleBufferState) (small : i < length ss) (state : state_of ss i ≡ Buffered chain) where
        abbrev moved : List SingleBufferState
        moved = set ss i (Buffered (Some (extended used chain)))

        own_state : state_of moved i ≡ Buffered (Some (extended used chain))
        own_state = get_or-set_same ss i _ (Buffered None) small

        other_state : (j : ℕ) → j ≢ i → state_of moved j ≡ state_of ss j
        other_state j n = get_or-set_other ss i j _ (Buffered None) n

        outs : (j : ℕ) → Dec (j ≡ i) → is_out (state_of moved j) ≡ is_out (state_of ss j)
        outs j (yes y) = ap (λ v. is_out (state_of moved v)) y ∙ ap is_out own_state ∙ sym (ap (λ v. is_out (state_of ss v)) y ∙ ap is_out state)
        outs j (no n) = ap is_out (other_state j n)

        chains : (j : ℕ) → Dec (j ≡ i) → Chained j used hold (state_of ss j) → Chained j (used + 1) (now chain) (state_of moved j)
        chains j (yes y) c = subst (λ v. Chained v (used + 1) (now chain) (state_of moved v)) (sym y) (subst (Chained i (used + 1) (now chain)) (sym own_state) (own chain mine))
        chains j (no n) c = subst (Chained j (used + 1) (now chain)) (sym (other_state j n)) (foreign j n (state_of ss j) c)

        pub joins : Joins e ss moved used (used + 1) hold (now chain)
        joins = record { more = refl; long = length-set ss i _; lies = lies chain; outs = λ j. outs j (ℕ_discrete j i); chains = λ j. chains j (ℕ_discrete j i) }

-- a buffered index meets an edge, which is appended to its chain
module _ (i : ℕ) (ss : List SingleBufferState) (used : ℕ) (hold : List Entry) (chain : Option Chain) (e : Ref) (ev : Event) (small : i < 1024) (long : length ss ≡ 1024) (evq : ev ≡ Arrives e) (sq : state_of ss i ≡ Buffered chain) (ready : Ready i ss used hold ev) where
  r : (at_index i (links (meaning e)) ≡ true) × (used < length hold) × Chained i used hold (state_of ss i)
  r = subst (Ready i ss used hold) evq ready

  mine : Chained i used hold (Buffered chain)
  mine = subst (Chained i used hold) sq r.2

  pub last_before : MatchOption chain (Unit {0}) (λ (c : Chain). c.last < used)
  last_before = go chain mine
    where
      go : (o : Option Chain) → Chained i used hold (Buffered o) → MatchOption o (Unit {0}) (λ (c : Chain). c.last < used)
      go None m = tt
      go (Some c) m = m.1.0

  pub met_arrives : (longer : Chain) (hold' : List Entry) → longer ≡ extended used chain → hold' ≡ relinked used chain (set hold used (record { edge = e; next = None })) → Met i ss (set ss i (Buffered (Some longer))) used (used + 1) hold hold' (state_of ss i) ev Holds
  met_arrives longer hold' p q =
      subst (λ v. Met i ss (set ss i (Buffered (Some longer))) used (used + 1) hold hold' (state_of ss i) v Holds) (sym evq)
      (subst (λ s. Met i ss (set ss i (Buffered (Some longer))) used (used + 1) hold hold' s (Arrives e) Holds) (sym sq)
      (refl, subst (λ v. Joins e ss (set ss i (Buffered (Some v))) used (used + 1) hold hold') (sym p) (subst (Joins e ss (set ss i (Buffered (Some (extended used chain)))) used (used + 1) hold) (sym q) (joins hold used e r.1 i r.0 chain mine ss (omega arith) sq))))
