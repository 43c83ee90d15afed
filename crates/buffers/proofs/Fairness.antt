-- A feature rule is fair: a told node lets out what waits on it, as often as it is held. Assumes nothing.
use Rattle.std.proofs.Common.{◌≡◌, ℕ, zero, suc, ◌+◌, ◌<◌, Bool, true, false, cond, ◌&&◌, eqb, ◌⊎◌, List, [], ◌∷◌, ◌++◌, length, get_or, Some, None, filter, Option, sym, refl, ap, ◌∙◌, subst, inl, inr, ⊎_elim, true≢false, arith, length-append}
use native.Mathlib.Decide.{dec_lt, ℕ_discrete}
use mathlib.Core.Bool.{and-true, and-false}
use Rattle.std.specs.List.{slice_get}
use Rattle.std.proofs.lemmas.Bool.{and_left, eqb-true, eq-eqb, ne_eqb}
use Rattle.std.proofs.lemmas.Option.{slice_get-get_or, slice_get_past}
use Rattle.std.proofs.lemmas.List.Elements.{filter-append}
use Rattle.theory.specs.Rules.{is_node, waits_on, Fair}
use Rattle.theory.proofs.Kept.{in_kept, kept_in}
use Rattle.index.specs.declared.direction.DependencyDirection.{DependencyDirection}
use Rattle.index.specs.declared.direction.DependencyDirection.TheVariants.{Forward, Reverse}
use Rattle.buffers.proofs.Releasing.{kept_false}
use Rattle.buffers.specs.Rules.{links, waiting, wanted, at_index, goes_out, freed, feature_rule}
use Rattle.index.specs.declared.links.Link.{Link}
use Rattle.theory.specs.Edges.{Edge, In}
use Rattle.index.specs.declared.records.FeatureEdge.{FeatureEdge}
use Rattle.index.specs.declared.links.EdgeLinks.{EdgeLinks}
use Rattle.index.specs.declared.links.EdgeLinks.TheVariants.{NonWeak, Weak}

in_left : {X : Type 0} (x : X) (xs ys : List X) → In x xs → In x (xs ++ ys)
in_left x [] ys i = absurd i
in_left x (y ∷ xs) ys (inl e) = inl e
in_left x (y ∷ xs) ys (inr i) = inr (in_left x xs ys i)

in_right : {X : Type 0} (x : X) (xs ys : List X) → In x ys → In x (xs ++ ys)
in_right x [] ys i = i
in_right x (y ∷ xs) ys i = inr (in_right x xs ys i)

in_cases : {X : Type 0} (x : X) (xs ys : List X) → In x (xs ++ ys) → In x xs ⊎ In x ys
in_cases x [] ys i = inr i
in_cases x (y ∷ xs) ys (inl e) = inl (inl e)
in_cases x (y ∷ xs) ys (inr i) = ⊎_elim (λ j. inl (inr j)) inr (in_cases x xs ys i)

one : Bool → ℕ
one true = 1
one false = 0

module _ (acc : Link → Bool) (nodes : List ℕ) (n : ℕ) where
  -- how often x goes out by the indexes below k
  times : Edge FeatureEdge → ℕ → ℕ
  times x zero = 0
  times x (suc k) = times x k + one (eqb (get_or nodes k 0) n && goes_out acc k x)

  kept_cons : (p : Edge FeatureEdge → Bool) (q : Bool) (x : Edge FeatureEdge) (xs : List (Edge FeatureEdge)) → length (filter p (cond q (x ∷ xs) xs)) ≡ length (filter p xs) + cond (p x) (one q) 0
  unfolding one
  kept_cons p true x xs = go (p x)
    where
      go : (b : Bool) → length (cond b (x ∷ filter p xs) (filter p xs)) ≡ length (filter p xs) + cond b 1 0
      go true = omega arith
      go false = omega arith
  kept_cons p false x xs = go (p x)
    where
      go : (b : Bool) → length (filter p xs) ≡ length (filter p xs) + cond b 0 0
      go true = omega arith
      go false = omega arith

  count_more : (p : Edge FeatureEdge → Bool) (held : List (Edge FeatureEdge)) (k : ℕ) → length (filter p (freed acc nodes n held (suc k))) ≡ length (filter p (freed acc nodes n held k)) + length (filter p (cond (eqb (get_or nodes k 0) n) (filter (goes_out acc k) held) []))
  count_more p held k = ap length (filter-append p (freed acc nodes n held k) (cond (eqb (get_or nodes k 0) n) (filter (goes_out acc k) held) [])) ∙ length-append (filter p (freed acc nodes n held k)) (filter p (cond (eqb (get_or nodes k 0) n) (filter (goes_out acc k) held) []))

  -- one more held edge
  count-cons : (p : Edge FeatureEdge → Bool) (x : Edge FeatureEdge) (held : List (Edge FeatureEdge)) (k : ℕ) → length (filter p (freed acc nodes n (x ∷ held) k)) ≡ length (filter p (freed acc nodes n held k)) + cond (p x) (times x k) 0
  unfolding times one
  count-cons p x held zero = go (p x)
    where
      go : (b : Bool) → 0 ≡ 0 + cond b 0 0
      go true = refl
      go false = refl
  count-cons p x held (suc k) =
      let a = count_more p (x ∷ held) k in
      let b = count_more p held k in
      let r = count-cons p x held k in
      let c = own (eqb (get_or nodes k 0) n) in
      let d = split (p x) (times x k) (one (eqb (get_or nodes k 0) n && goes_out acc k x)) in
      omega (arith, a, b, r, c, d)
    where
      own : (q : Bool) → length (filter p (cond q (filter (goes_out acc k) (x ∷ held)) [])) ≡ length (filter p (cond q (filter (goes_out acc k) held) [])) + cond (p x) (one (q && goes_out acc k x)) 0
      own true = kept_cons p (goes_out acc k x) x (filter (goes_out acc k) held)
      own false = go (p x)
        where
          go : (b : Bool) → 0 ≡ 0 + cond b 0 0
          go true = refl
          go false = refl

      split : (b : Bool) (u v : ℕ) → cond b (u + v) 0 ≡ cond b u 0 + cond b v 0
      split true u v = refl
      split false u v = refl

  no_times : (x : Edge FeatureEdge) (k : ℕ) → ((j : ℕ) → j < k → goes_out acc j x ≡ false) → times x k ≡ 0
  unfolding times one
  no_times x zero h = refl
  no_times x (suc k) h =
      let a = no_times x k (λ j l. h j (omega arith)) in
      let b : one (eqb (get_or nodes k 0) n && goes_out acc k x) ≡ 0 = ap (λ v. one (eqb (get_or nodes k 0) n && v)) (h k (omega arith)) ∙ ap one (and-false (eqb (get_or nodes k 0) n)) in
      omega (arith, a, b)

  not_at : (j i : ℕ) → (i ≡ j → ⊥) → (b : Bool) → (eqb i j && b) ≡ false
  not_at j i z b = and_left (eqb i j) b (ne_eqb i j z)

  -- an edge at index i goes out once, if its node is told and its optional link is accepted
  weak_times : (x : Edge FeatureEdge) (i : ℕ) (w : Bool) → ((j : ℕ) → goes_out acc j x ≡ (eqb i j && w)) → (k : ℕ) → i < k → times x k ≡ one (eqb (get_or nodes i 0) n && w)
  unfolding times one
  weak_times x i w h zero l = absurd (omega arith)
  weak_times x i w h (suc k) l = go (λ m. weak_times x i w h k m) (ℕ_discrete i k)
    where
      go : (i < k → times x k ≡ one (eqb (get_or nodes i 0) n && w)) → Dec (i ≡ k) → times x k + one (eqb (get_or nodes k 0) n && goes_out acc k x) ≡ one (eqb (get_or nodes i 0) n && w)
      go rec (yes y) =
          let a = no_times x k (λ j m. h j ∙ not_at j i (omega arith) w) in
          let b : goes_out acc k x ≡ w = h k ∙ ap (λ v. v && w) (eq-eqb i k y) in
          let c : one (eqb (get_or nodes k 0) n && goes_out acc k x) ≡ one (eqb (get_or nodes i 0) n && w) = ap (λ v. one (eqb (get_or nodes k 0) n && v)) b ∙ ap (λ v. one (eqb (get_or nodes v 0) n && w)) (sym y) in
          omega (arith, a, c)
      go rec (no z) =
          let a = rec (omega arith) in
          let b : one (eqb (get_or nodes k 0) n && goes_out acc k x) ≡ 0 = ap (λ v. one (eqb (get_or nodes k 0) n && v)) (h k ∙ not_at k i z w) ∙ ap one (and-false (eqb (get_or nodes k 0) n)) in
          omega (arith, a, b)

  all_times : (x : Edge FeatureEdge) (l : Option EdgeLinks) → links x ≡ l → times x (length nodes) ≡ one (is_node n (waiting acc nodes l))
  unfolding one
  all_times x None e = no_times x (length nodes) (λ j m. ap (λ v. at_index j v && wanted acc v) e)
  all_times x (Some (NonWeak m')) e = no_times x (length nodes) (λ j m. ap (λ v. at_index j v && wanted acc v) e)
  all_times x (Some (Weak q o k)) e = go (dec_lt i (length nodes))
    where
      i : ℕ
      i = k.0

      out : (j : ℕ) → goes_out acc j x ≡ (eqb i j && acc o)
      out j = ap (λ v. at_index j v && wanted acc v) e

      none : (a : Bool) → is_node n (cond a None None) ≡ false
      none true = refl
      none false = refl

      some : (a : Bool) (m : ℕ) → (eqb m n && a) ≡ is_node n (cond a (Some m) None)
      some true m = and-true (eqb m n)
      some false m = and-false (eqb m n)

      go : Dec (i < length nodes) → times x (length nodes) ≡ one (is_node n (cond (acc o) (slice_get nodes i) None))
      go (yes y) = weak_times x i (acc o) out (length nodes) y ∙ ap one (some (acc o) (get_or nodes i 0)) ∙ sym (ap (λ v. one (is_node n (cond (acc o) v None))) (slice_get-get_or nodes i 0 y))
      go (no z) = no_times x (length nodes) (λ j m. out j ∙ not_at j i (omega arith) (acc o)) ∙ sym (ap (λ v. one (is_node n (cond (acc o) v None))) (slice_get_past nodes i (omega arith)) ∙ ap one (none (acc o)))

  pub freed_each : (p : Edge FeatureEdge → Bool) (held : List (Edge FeatureEdge)) → length (filter p (freed acc nodes n held (length nodes))) ≡ length (filter p (filter (waits_on (feature_rule acc nodes Forward) n) held))
  freed_each p [] = empty (length nodes)
    where
      nils : (b : Bool) → length (filter p (cond b (filter (goes_out acc 0) []) [])) ≡ 0
      nils true = refl
      nils false = refl

      empty : (k : ℕ) → length (filter p (freed acc nodes n [] k)) ≡ 0
      empty zero = refl
      empty (suc k) = let a = count_more p [] k in let b = empty k in let c = nils (eqb (get_or nodes k 0) n) in omega (arith, a, b, c)
  freed_each p (x ∷ held) =
      let a = count-cons p x held (length nodes) in
      let r = freed_each p held in
      let b = ap (λ v. cond (p x) v 0) (all_times x (links x) refl) in
      let c = kept_cons p (is_node n (waiting acc nodes (links x))) x (filter (waits_on (feature_rule acc nodes Forward) n) held) in
      omega (arith, a, r, b, c)

  -- membership
  freed_out : (e : Edge FeatureEdge) (held : List (Edge FeatureEdge)) (k : ℕ) → In e (freed acc nodes n held k) → (j : ℕ) × (j < k) × (eqb (get_or nodes j 0) n ≡ true) × In e held × (goes_out acc j e ≡ true)
  freed_out e held zero i = absurd i
  freed_out e held (suc k) i = go (λ x. freed_out e held k x) (in_cases e (freed acc nodes n held k) _ i)
    where
      last : (b : Bool) → eqb (get_or nodes k 0) n ≡ b → In e (cond b (filter (goes_out acc k) held) []) → (j : ℕ) × (j < suc k) × (eqb (get_or nodes j 0) n ≡ true) × In e held × (goes_out acc j e ≡ true)
      last true q x = let t = in_kept (goes_out acc k) held e x in (k, omega arith, q, t.0, t.1)
      last false q x = absurd x

      go : (In e (freed acc nodes n held k) → (j : ℕ) × (j < k) × (eqb (get_or nodes j 0) n ≡ true) × In e held × (goes_out acc j e ≡ true)) → In e (freed acc nodes n held k) ⊎ In e (cond (eqb (get_or nodes k 0) n) (filter (goes_out acc k) held) []) → (j : ℕ) × (j < suc k) × (eqb (get_or nodes j 0) n ≡ true) × In e held × (goes_out acc j e ≡ true)
      go rec (inl x) = let t = rec x in (t.0, omega (arith, t.1), t.2, t.3, t.4)
      go rec (inr x) = last (eqb (get_or nodes k 0) n) refl x

  freed_in : (e : Edge FeatureEdge) (held : List (Edge FeatureEdge)) (k j : ℕ) → j < k → eqb (get_or nodes j 0) n ≡ true → In e held → goes_out acc j e ≡ true → In e (freed acc nodes n held k)
  freed_in e held zero j l q i g = absurd (omega arith)
  freed_in e held (suc k) j l q i g = go (λ m. freed_in e held k j m q i g) (ℕ_discrete j k)
    where
      go : (j < k → In e (freed acc nodes n held k)) → Dec (j ≡ k) → In e (freed acc nodes n held (suc k))
      go rec (yes y) = in_right e (freed acc nodes n held k) _ (subst (λ b. In e (cond b (filter (goes_out acc k) held) [])) (sym (ap (λ v. eqb (get_or nodes v 0) n) (sym y) ∙ q)) (kept_in (goes_out acc k) held e i (ap (λ v. goes_out acc v e) (sym y) ∙ g)))
      go rec (no z) = in_left e (freed acc nodes n held k) _ (rec (omega arith))

  out_waits : (e : Edge FeatureEdge) (l : Option EdgeLinks) → links e ≡ l → (j : ℕ) → j < length nodes → eqb (get_or nodes j 0) n ≡ true → goes_out acc j e ≡ true → waiting acc nodes l ≡ Some n
  out_waits e None q j h b g = absurd (true≢false (sym g ∙ ap (λ v. at_index j v && wanted acc v) q))
  out_waits e (Some (NonWeak m)) q j h b g = absurd (true≢false (sym g ∙ ap (λ v. at_index j v && wanted acc v) q))
  out_waits e (Some (Weak r o k)) q j h b g = go (eqb k.0 j) refl (acc o) (sym (ap (λ v. at_index j v && wanted acc v) q) ∙ g)
    where
      go : (x : Bool) → eqb k.0 j ≡ x → (a : Bool) → (x && a) ≡ true → cond a (slice_get nodes k.0) None ≡ Some n
      go true y true z = let s = eqb-true k.0 j y in ap (slice_get nodes) s ∙ slice_get-get_or nodes j 0 h ∙ ap Some (eqb-true (get_or nodes j 0) n b)
      go true y false z = absurd (true≢false (sym z))
      go false y a z = absurd (true≢false (sym z))

  waits_out : (e : Edge FeatureEdge) (l : Option EdgeLinks) → links e ≡ l → waiting acc nodes l ≡ Some n → (j : ℕ) × (j < length nodes) × (eqb (get_or nodes j 0) n ≡ true) × (goes_out acc j e ≡ true)
  waits_out e None q w = absurd cc
  waits_out e (Some (NonWeak m)) q w = absurd cc
  waits_out e (Some (Weak r o x)) q w = go (dec_lt x.0 (length nodes)) (acc o) refl w
    where
      i : ℕ
      i = x.0

      go : Dec (i < length nodes) → (a : Bool) → acc o ≡ a → cond a (slice_get nodes i) None ≡ Some n → (j : ℕ) × (j < length nodes) × (eqb (get_or nodes j 0) n ≡ true) × (goes_out acc j e ≡ true)
      go d false z v = absurd cc
      go (no y) true z v = absurd (let p = slice_get_past nodes i (omega arith) in cc)
      go (yes y) true z v = (i, y, eq-eqb _ _ (let p = slice_get-get_or nodes i 0 y in cc), ap (λ k. at_index i k && wanted acc k) q ∙ ap (λ k. eqb i i && k) z ∙ ap (λ k. k && true) (eq-eqb i i refl))

pub feature_fair : (acc : Link → Bool) (nodes : List ℕ) (d : DependencyDirection) → Fair (feature_rule acc nodes d)
feature_fair acc nodes Forward = record {
  only = λ n held e i. let t = freed_out acc nodes n e held (length nodes) i in (t.3, out_waits acc nodes n e (links e) refl t.0 t.1 t.2 t.4);
  all = λ n held e i w. let t = waits_out acc nodes n e (links e) refl w in freed_in acc nodes n e held (length nodes) t.0 t.1 t.2 i t.3;
  each = λ n held p. freed_each acc nodes n p held;
}
feature_fair acc nodes Reverse = record {
  only = λ n held e i. absurd i;
  all = λ n held e i w. absurd cc;
  each = λ n held p. sym (ap (λ l. length (filter p l)) (kept_false held));
}
