-- Following a chain. Assumes nothing.
use Rattle.std.proofs.Common.{◌≡◌, ℕ, zero, suc, ◌+◌, ◌-◌, ◌<◌, ◌≤◌, Bool, true, false, cond, ◌&&◌, List, [], ◌∷◌, ◌++◌, map, length, get_or, take, set, filter, Some, None, Option, sym, refl, ap, ◌∙◌, subst, append-nil, arith, length-append}
use Rattle.std.proofs.Math.Seq.{take-length}
use Rattle.std.proofs.lemmas.List.{take_more_set, map_push, get_or_default}
use Rattle.std.proofs.lemmas.List.Elements.{filter-append}
use Rattle.buffers.specs.Rules.{links, wanted, at_index, goes_out}
use Rattle.buffers.specs.Buffers.{Ref, Entry, meaning, edge_of, handed, lying, at_place, Void, Next, Linked}
use Rattle.index.specs.declared.links.Link.{Link}
use Rattle.theory.specs.Edges.{Edge}
use Rattle.index.specs.declared.records.FeatureEdge.{FeatureEdge}
use Rattle.buffers.proofs.Chaining.{at_read, next_read, lying_more}

-- how many places lie from a link on
abbrev pub left_to : ℕ → Option ℕ → ℕ
left_to n None = 0
left_to n (Some j) = n - j

entry_at : (hold : List Entry) (k : ℕ) → k < length hold → (h : Entry) × (h ≡ get_or hold k h)
entry_at [] k l = absurd (omega arith)
entry_at (h ∷ hs) zero l = (h, refl)
entry_at (h ∷ hs) (suc k) l = entry_at hs k (omega arith)

pub handed_more : (hand : List Ref) (out : ℕ) (e : Ref) → out < length hand → handed (out + 1) (set hand out e) ≡ handed out hand ++ meaning e ∷ []
handed_more hand out e lt = ap (map meaning) (take_more_set hand out e lt) ∙ map_push meaning (take out hand) e

module _ (acc : Link → Bool) (hold : List Entry) (i : ℕ) where
  abbrev K : ℕ → List (Edge FeatureEdge)
  K k = filter (goes_out acc i) (lying k hold)

  more : (k : ℕ) (h : Entry) → k < length hold → h ≡ get_or hold k h → K (k + 1) ≡ K k ++ cond (goes_out acc i (edge_of h)) (edge_of h ∷ []) []
  more k h l e = ap (filter (goes_out acc i)) (lying_more hold k h l e) ∙ filter-append (goes_out acc i) (lying k hold) (edge_of h ∷ [])

  -- places that are not of the index give nothing
  skips : (k m : ℕ) → k + m ≤ length hold → Void (at_place i hold) k (k + m) → K (k + m) ≡ K k
  skips k zero l v = let e : k + 0 ≡ k = omega arith in ap K e
  skips k (suc m) l v =
      let t = entry_at hold (k + m) (omega arith) in
      let no' : goes_out acc i (edge_of t.0) ≡ false = ap (λ b. b && wanted acc (links (edge_of t.0))) (sym (at_read i hold (k + m) t.0 (omega arith) t.1) ∙ v (k + m) (omega arith) (omega arith)) in
      let e : k + suc m ≡ (k + m) + 1 = omega arith in
      ap K e ∙ more (k + m) t.0 (omega arith) t.1 ∙ ap (λ b. K (k + m) ++ cond b (edge_of t.0 ∷ []) []) no' ∙ append-nil (K (k + m)) ∙ skips k m (omega arith) (λ j a b. v j a (omega arith))

  pub skip_to : (k j : ℕ) → k ≤ j → j ≤ length hold → Void (at_place i hold) k j → K j ≡ K k
  skip_to k j h l v = let e : k + (j - k) ≡ j = omega arith in subst (λ x. Void (at_place i hold) k x → x ≤ length hold → K x ≡ K k) e (λ w y. skips k (j - k) y w) v l

  grows : (k m : ℕ) → k + m ≤ length hold → length (K k) ≤ length (K (k + m))
  grows k zero l = let e : k ≡ k + 0 = omega arith in let q = ap (λ x. length (K x)) e in omega arith
  grows k (suc m) l =
      let t = entry_at hold (k + m) (omega arith) in
      let e : k + suc m ≡ (k + m) + 1 = omega arith in
      let q = ap length (ap K e ∙ more (k + m) t.0 (omega arith) t.1) in
      let a = length-append (K (k + m)) (cond (goes_out acc i (edge_of t.0)) (edge_of t.0 ∷ []) []) in
      let r = grows k m (omega arith) in
      omega arith

-- how far it has come: the places below k are dealt with
pub record Following (acc : Link → Bool) (hold : List Entry) (i : ℕ) (hand : List Ref) (at : Option ℕ) (out : ℕ) : Type 0 where
  pub k : ℕ
  pub below : k ≤ length hold
  pub next : Next (at_place i hold) (length hold) k at
  pub goes : handed out hand ≡ filter (goes_out acc i) (lying k hold)
  pub counts : out ≡ length (filter (goes_out acc i) (lying k hold))

module _ (acc : Link → Bool) (hold : List Entry) (i : ℕ) (hand : List Ref) where
  pub following_start : (first : Option ℕ) → Next (at_place i hold) (length hold) 0 first → Following acc hold i hand first 0
  following_start first n = record { k = 0; below = omega arith; next = n; goes = refl; counts = refl }

  pub following_end : (at : Option ℕ) (out : ℕ) → at ≡ None → Following acc hold i hand at out → (handed out hand ≡ filter (goes_out acc i) (map edge_of hold)) × (out ≡ length (filter (goes_out acc i) (map edge_of hold)))
  following_end at out z f =
      let v = subst (Next (at_place i hold) (length hold) f.k) z f.next in
      let all = ap (λ l. filter (goes_out acc i) (map edge_of l)) (sym (take-length hold)) ∙ skip_to acc hold i f.k (length hold) f.below (omega arith) v in
      (f.goes ∙ sym all, f.counts ∙ ap length (sym all))

  module _ (at : Option ℕ) (out j : ℕ) (q : at ≡ Some j) (lk : Linked i (length hold) hold) (f : Following acc hold i hand at out) where
    here : (f.k ≤ j) × (j < length hold) × (at_place i hold j ≡ true) × Void (at_place i hold) f.k j
    here = subst (Next (at_place i hold) (length hold) f.k) q f.next

    pub place_ok : j < length hold
    place_ok = here.1

    module _ (h : Entry) (own : h ≡ get_or hold j h) where
      mine : at_index i (links (edge_of h)) ≡ true
      mine = sym (at_read i hold j h here.1 own) ∙ here.2

      after : Next (at_place i hold) (length hold) (j + 1) h.next
      after = let e : suc j ≡ j + 1 = omega arith in subst (λ x. Next (at_place i hold) (length hold) x h.next) e (subst (Next (at_place i hold) (length hold) (suc j)) (next_read hold j h here.1 own) (lk j here.1 here.2))

      k_next : filter (goes_out acc i) (lying (j + 1) hold) ≡ filter (goes_out acc i) (lying f.k hold) ++ cond (wanted acc (links (edge_of h))) (edge_of h ∷ []) []
      k_next = more acc hold i j h here.1 own ∙ ap (λ b. filter (goes_out acc i) (lying j hold) ++ cond (b && wanted acc (links (edge_of h))) (edge_of h ∷ []) []) mine ∙ ap (λ x. x ++ cond (wanted acc (links (edge_of h))) (edge_of h ∷ []) []) (skip_to acc hold i f.k j here.0 (omega (arith, here.1)) here.3)

      less : left_to (length hold) h.next < left_to (length hold) at
      less = subst (λ x. left_to (length hold) h.next < left_to (length hold) x) (sym q) (go h.next after)
        where
          go : (o : Option ℕ) → Next (at_place i hold) (length hold) (j + 1) o → left_to (length hold) o < length hold - j
          go None w = let x = here.1 in omega arith
          go (Some m) w = let x = w.0 in let y = w.1 in omega arith

      following_no : wanted acc (links (edge_of h)) ≡ false → Following acc hold i hand h.next out
      following_no n =
          let e = k_next ∙ ap (λ b. filter (goes_out acc i) (lying f.k hold) ++ cond b (edge_of h ∷ []) []) n ∙ append-nil (filter (goes_out acc i) (lying f.k hold)) in
          record { k = j + 1; below = omega (arith, here.1); next = after; goes = f.goes ∙ sym e; counts = f.counts ∙ ap length (sym e) }

      yes_k : wanted acc (links (edge_of h)) ≡ true → filter (goes_out acc i) (lying (j + 1) hold) ≡ filter (goes_out acc i) (lying f.k hold) ++ edge_of h ∷ []
      yes_k y = k_next ∙ ap (λ b. filter (goes_out acc i) (lying f.k hold) ++ cond b (edge_of h ∷ []) []) y

      room_ok : (size : ℕ) → length (filter (goes_out acc i) (map edge_of hold)) ≤ size → wanted acc (links (edge_of h)) ≡ true → out < size
      room_ok size r y =
          let a = ap length (yes_k y) in
          let b = length-append (filter (goes_out acc i) (lying f.k hold)) (edge_of h ∷ []) in
          let e : (j + 1) + (length hold - (j + 1)) ≡ length hold = omega (arith, here.1) in
          let g = grows acc hold i (j + 1) (length hold - (j + 1)) (omega (arith, here.1)) in
          let l = ap (λ x. length (K acc hold i x)) e in
          let w = ap (λ l. length (filter (goes_out acc i) (map edge_of l))) (take-length hold) in
          let c = f.counts in
          omega arith

      following_yes : wanted acc (links (edge_of h)) ≡ true → out < length hand → Following acc hold i (set hand out h.edge) h.next (out + 1)
      following_yes y lt =
          let a = ap length (yes_k y) in
          let b = length-append (filter (goes_out acc i) (lying f.k hold)) (edge_of h ∷ []) in
          let c = f.counts in
          record {
            k = j + 1;
            below = omega (arith, here.1);
            next = after;
            goes = handed_more hand out h.edge lt ∙ ap (λ x. x ++ edge_of h ∷ []) f.goes ∙ sym (yes_k y);
            counts = omega arith;
          }

    -- what a turn needs: the entry at the link is there, and whether or not it goes out, the turn leads on
    pub record Turn (size : ℕ) (h : Entry) : Type 0 where
      pub less : left_to (length hold) h.next < left_to (length hold) at
      pub room : wanted acc (links (edge_of h)) ≡ true → out < size
      pub refused : wanted acc (links (edge_of h)) ≡ false → Following acc hold i hand h.next out
      pub goes_on : wanted acc (links (edge_of h)) ≡ true → Following acc hold i (set hand out h.edge) h.next (out + 1)

    pub turned : (size : ℕ) (d : Entry) → length (filter (goes_out acc i) (map edge_of hold)) ≤ size → length hand ≡ size → Turn size (get_or hold j d)
    turned size d room sized =
        let h = get_or hold j d in
        let own = get_or_default hold j d h place_ok in
        record {
          less = less h own;
          room = room_ok h own size room;
          refused = following_no h own;
          goes_on = λ y. following_yes h own y (let a = room_ok h own size room y in omega arith);
        }
