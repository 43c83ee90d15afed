-- The links that lead through the indexes of a bucket give those that a node releases. Assumes nothing.
use Rattle.std.proofs.Common.{◌≡◌, ℕ, zero, suc, ◌+◌, ◌-◌, ◌%◌, ◌<◌, ◌≤◌, Bool, true, false, cond, eqb, List, ◌∷◌, length, get_or, Some, None, Option, sym, refl, ap, ◌∙◌, subst, true≢false, arith}
use native.Mathlib.Decide.{ℕ_discrete}
use Rattle.std.proofs.lemmas.Bool.{eqb-true, eq-eqb, ne_eqb}
use Rattle.buffers.specs.Buffers.{seek, in_bucket, of_node, released, left, Inside, Firsts, Nexts, Next}
use Rattle.buffers.proofs.Following.{left_to}

seek_next : (at : ℕ → Bool) (k m : ℕ) → Next at (k + m) k (seek at k m)
seek_next at k zero = λ i a b. absurd (omega arith)
seek_next at k (suc m) = go (at k) refl (seek at (suc k) m) (seek_next at (suc k) m)
  where
    go : (b : Bool) → at k ≡ b → (o : Option ℕ) → Next at (suc k + m) (suc k) o → Next at (k + suc m) k (cond b (Some k) o)
    go true e o r = (omega arith, omega arith, e, λ i a b. absurd (omega arith))
    go false e None t = λ i a b. first i a (ℕ_discrete i k) b
      where
        first : (i : ℕ) → k ≤ i → Dec (i ≡ k) → i < k + suc m → at i ≡ false
        first i a (yes y) b = ap at y ∙ e
        first i a (no z) b = t i (omega arith) (omega arith)
    go false e (Some j) t = (omega (arith, t.0), omega (arith, t.1), t.2, λ i a b. first i a (ℕ_discrete i k) b)
      where
        first : (i : ℕ) → k ≤ i → Dec (i ≡ k) → i < j → at i ≡ false
        first i a (yes y) b = ap at y ∙ e
        first i a (no z) b = t.3 i (omega arith) b

module _ (nodes : List ℕ) (n : ℕ) where
  abbrev bucket : ℕ → Bool
  bucket = in_bucket nodes (n % 4096)

  -- an index that is not of the bucket is not of the node
  not_of_node : (i : ℕ) → bucket i ≡ false → of_node nodes n i ≡ false
  not_of_node i v = go (eqb (get_or nodes i 0) n) refl
    where
      go : (b : Bool) → eqb (get_or nodes i 0) n ≡ b → b ≡ false
      go false e = refl
      go true e =
          let same = eqb-true (get_or nodes i 0) n e in
          absurd (true≢false (sym (eq-eqb _ _ (ap (λ x. x % 4096) same)) ∙ v))

  seek_left : (k m : ℕ) → k + m ≡ length nodes → left nodes n (seek bucket k m) ≡ released nodes n k m
  seek_left k zero e = refl
  seek_left k (suc m) e = go (bucket k) refl (seek bucket (suc k) m) (seek_left (suc k) m (omega arith))
    where
      go : (b : Bool) → bucket k ≡ b → (o : Option ℕ) → left nodes n o ≡ released nodes n (suc k) m → left nodes n (cond b (Some k) o) ≡ released nodes n k (suc m)
      go true q o r = let z : length nodes - k ≡ suc m = omega arith in ap (released nodes n k) z
      go false q o r = r ∙ sym (ap (λ b. cond b (k ∷ released nodes n (suc k) m) (released nodes n (suc k) m)) (not_of_node k q))

  inside : (k : ℕ) (o : Option ℕ) → Next bucket (length nodes) k o → Inside nodes n o
  inside k None t = λ i q. absurd cc
  inside k (Some j) t = λ i q. let e : j ≡ i = cc in subst (λ v. (v < length nodes) × (bucket v ≡ true)) e (t.1, t.2)

  later : (k : ℕ) (o : Option ℕ) → k < length nodes → Next bucket (length nodes) (k + 1) o → left_to (length nodes) o < length nodes - k
  later k None l t = omega arith
  later k (Some j) l t = let a = t.0 in let b = t.1 in omega arith

  pub begun : (firsts : List (Option ℕ)) → Firsts nodes firsts → Inside nodes n (get_or firsts (n % 4096) None) × (left nodes n (get_or firsts (n % 4096) None) ≡ released nodes n 0 (length nodes))
  begun firsts f =
      let e = f (n % 4096) (omega arith) in
      let z : length nodes - 0 ≡ length nodes = omega arith in
      let q : get_or firsts (n % 4096) None ≡ seek bucket 0 (length nodes) = e ∙ ap (seek bucket 0) z in
      let s : 0 + length nodes ≡ length nodes = omega arith in
      (inside 0 _ (subst (Next bucket (length nodes) 0) (sym q) (subst (λ v. Next bucket v 0 (seek bucket 0 (length nodes))) s (seek_next bucket 0 (length nodes)))), ap (left nodes n) q ∙ seek_left 0 (length nodes) s)

  -- a link, and the next one: the first index comes if it is of the node, and the others are those from the next link on
  pub record Stepped (link next : Option ℕ) (i : ℕ) : Type 0 where
    pub low : i < length nodes
    pub inside_next : Inside nodes n next
    pub less : left_to (length nodes) next < left_to (length nodes) link
    pub hit : get_or nodes i 0 ≡ n → left nodes n link ≡ i ∷ left nodes n next
    pub miss : (get_or nodes i 0 ≡ n → ⊥) → left nodes n link ≡ left nodes n next

  pub stepped : (nexts : List (Option ℕ)) (link : Option ℕ) (i : ℕ) → Nexts nodes nexts → link ≡ Some i → Inside nodes n link → Stepped link (get_or nexts i None) i
  stepped nexts link i f q w =
      let own = w i q in
      let same : get_or nodes i 0 % 4096 ≡ n % 4096 = eqb-true _ _ own.1 in
      let e : get_or nexts i None ≡ seek bucket (i + 1) (length nodes - (i + 1)) = f i (omega arith) own.0 ∙ ap (λ b. seek (in_bucket nodes b) (i + 1) (length nodes - (i + 1))) same in
      let l = own.0 in
      let z : (i + 1) + (length nodes - (i + 1)) ≡ length nodes = omega arith in
      let t : Next bucket (length nodes) (i + 1) (get_or nexts i None) = subst (Next bucket (length nodes) (i + 1)) (sym e) (subst (λ v. Next bucket v (i + 1) (seek bucket (i + 1) (length nodes - (i + 1)))) z (seek_next bucket (i + 1) (length nodes - (i + 1)))) in
      let rest : released nodes n (suc i) (length nodes - (i + 1)) ≡ left nodes n (get_or nexts i None) =
      let s : suc i ≡ i + 1 = omega arith in
      ap (λ k. released nodes n k (length nodes - (i + 1))) s ∙ sym (ap (left nodes n) e ∙ seek_left (i + 1) (length nodes - (i + 1)) z) in
      let here : left nodes n link ≡ cond (of_node nodes n i) (i ∷ released nodes n (suc i) (length nodes - (i + 1))) (released nodes n (suc i) (length nodes - (i + 1))) =
      let s : length nodes - i ≡ suc (length nodes - (i + 1)) = omega arith in
      ap (left nodes n) q ∙ ap (released nodes n i) s in
      record {
        low = l;
        inside_next = inside (i + 1) _ t;
        less = subst (λ v. left_to (length nodes) (get_or nexts i None) < left_to (length nodes) v) (sym q) (later i _ l t);
        hit = λ y. here ∙ ap (λ b. cond b (i ∷ released nodes n (suc i) (length nodes - (i + 1))) (released nodes n (suc i) (length nodes - (i + 1)))) (eq-eqb (get_or nodes i 0) n y) ∙ ap (λ r. i ∷ r) rest;
        miss = λ y. here ∙ ap (λ b. cond b (i ∷ released nodes n (suc i) (length nodes - (i + 1))) (released nodes n (suc i) (length nodes - (i + 1)))) (ne_eqb (get_or nodes i 0) n y) ∙ rest;
      }
