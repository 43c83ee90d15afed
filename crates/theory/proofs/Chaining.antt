-- Chains of links, and the lists that they stand for: a link that tells the latest item stays right as an item is added,
-- and a walk along the links gives just the items with the key, the latest first. Assumes nothing.
use Rattle.std.proofs.Common.{◌≡◌, ℕ, zero, suc, ◌+◌, ◌-◌, ◌<◌, ◌≤◌, eqb, ◌∷◌, Some, sym, refl, ap, ◌∙◌, inl, inr, add-one, sub-one, arith}
use native.Mathlib.Bridge.{le_prop}
use native.Mathlib.Nat.{ℕ_set}
use std.HLevel.{Π_prop}
use Rattle.std.proofs.lemmas.Bool.{eqb-true, ne_eqb, eq-eqb, cases_lt, le-leb}
use Rattle.theory.specs.Edges.{Edge, In, Once}
use Rattle.theory.specs.Graphs.{Steps}
use Rattle.theory.specs.Chains.{newest, keyed, Last, from}
use Rattle.theory.proofs.Kept.{in_kept, kept_in, once_kept}

pub last_prop : {f : ℕ → ℕ} {k n h : ℕ} → IsProp (Last f k n h)
last_prop p q =
    λ i. (le_prop p.0 q.0 i, Π_prop (λ j. Π_prop (λ _. Π_prop (λ _. Π_prop (λ _ p. absurd p)))) p.1 q.1 i, Π_prop (λ _. ℕ_set _ _) p.2 q.2 i)

-- no item yet, and no link
pub last_none : (f : ℕ → ℕ) (n : ℕ) → Last f 0 n 0
last_none f n = (omega arith, λ j _ high _. omega arith, λ p. absurd (omega arith))

-- keys that agree below e have the same latest links there
module _ (f g : ℕ → ℕ) (e : ℕ) (agree : (j : ℕ) → j < e → g j ≡ f j) where
  pub last_same : (k : ℕ) → k ≤ e → (n h : ℕ) → Last f k n h → Last g k n h
  last_same k b n h l = (l.0, λ j low high q. l.1 j low high (sym (agree j (omega arith)) ∙ q), λ p. let m : h - 1 < e = omega (arith, l.0) in agree (h - 1) m ∙ l.2 p)

  -- an item with another key leaves the head
  pub head_other : (n h : ℕ) → (g e ≡ n → ⊥) → Last f e n h → Last g (e + 1) n h
  head_other n h ne l =
      let m = last_same e (omega arith) n h l in
      let within : h ≤ e = m.0 in (
        omega arith,
        λ j low high q. elim (cases_lt j e) [ inl less ↦ m.1 j low less q | inr more ↦ let same : j ≡ e = omega arith in ne (ap g (sym same) ∙ q) ],
        m.2,
      )

  -- an item with the key is the new head
  pub head_new : (n : ℕ) → g e ≡ n → Last g (e + 1) n (e + 1)
  head_new n q = (omega arith, λ j low high _. omega arith, λ _. let same : e + 1 - 1 ≡ e = omega arith in ap g same ∙ q)

  pub link_old : (k : ℕ) → k < e → (h i : ℕ) → i ≡ h → Last f k (f k) h → Last g k (g k) i
  link_old k b h i q l = rw (agree k b, q) (last_same k (omega arith) (f k) h l)

  pub link_new : (n h i : ℕ) → g e ≡ n → i ≡ h → Last f e n h → Last g e (g e) i
  link_new n h i p q l = rw (p, q) (last_same e (omega arith) n h l)

-- items that agree below k are listed alike
pub newest_same : {X : Type 0} (at bt : ℕ → X) (k : ℕ) → ((j : ℕ) → j < k → bt j ≡ at j) → newest bt k ≡ newest at k
newest_same at bt zero eq = refl
newest_same at bt (suc k) eq =
    let r = newest_same at bt k (λ j b. eq j (omega arith)) in
    let t = eq k (omega arith) in cc

-- one more item comes first
pub newest_more : {X : Type 0} (at bt : ℕ → X) (k : ℕ) (x : X) → ((j : ℕ) → j < k → bt j ≡ at j) → bt k ≡ x → newest bt (k + 1) ≡ x ∷ newest at k
newest_more at bt k x eq q = ap (newest bt) (add-one k) ∙ ap (λ y. y ∷ newest bt k) q ∙ ap (λ ys. x ∷ ys) (newest_same at bt k eq)

module _ {X : Type 0} (key : X → ℕ) (at : ℕ → X) where
  keyed_skip : (k n h : ℕ) → h ≤ k → ((j : ℕ) → h ≤ j → j < k → key (at j) ≡ n → ⊥) → keyed key at k n ≡ keyed key at h n
  keyed_skip zero n h b none = let z : 0 ≡ h = omega arith in ap (λ x. keyed key at x n) z
  keyed_skip (suc k) n h b none =
      elim (cases_lt k h) [
        | inl more ↦ let z : suc k ≡ h = omega arith in ap (λ x. keyed key at x n) z
        | inr less ↦
            rw (ne_eqb (key (at k)) n (none k less (omega arith))) (keyed_skip k n h less (λ j low high. none j low (omega arith)))
      ]

  -- what is left from a link on is the list that the link stands for
  pub from_last : (count k n h : ℕ) → k ≤ count → Last (λ j. key (at j)) k n h → from key at count h ≡ keyed key at k n
  from_last count k n h b l =
      let within : h ≤ k = l.0 in
      let start : from key at count h ≡ keyed key at h (key (at (h - 1))) = rw (le-leb h count (omega arith)) in
      let end = sym (keyed_skip k n h l.0 l.1) in
      start ∙ here h l.2 ∙ end
    where
      here : (x : ℕ) → (0 < x → key (at (x - 1)) ≡ n) → keyed key at x (key (at (x - 1))) ≡ keyed key at x n
      here zero _ = refl
      here (suc x) q = ap (keyed key at (suc x)) (q (omega arith))

  in_newest : (k : ℕ) (e : X) → In e (newest at k) → (j : ℕ) × (j < k) × (e ≡ at j)
  in_newest zero e h = absurd h
  in_newest (suc k) e (inl q) = (k, omega arith, q)
  in_newest (suc k) e (inr i) = let r = in_newest k e i in let b = r.1 in (r.0, omega arith, r.2)

  newest_in : (k j : ℕ) → j < k → In (at j) (newest at k)
  newest_in zero j b = absurd (omega arith)
  newest_in (suc k) j b = elim (cases_lt j k) [ inl less ↦ inr (newest_in k j less) | inr more ↦ let same : j ≡ k = omega arith in inl (ap at same) ]

  pub in_keyed : (k n : ℕ) (e : X) → In e (keyed key at k n) → (j : ℕ) × (j < k) × (key (at j) ≡ n) × (e ≡ at j)
  in_keyed k n e h =
      let r = in_kept (λ x. eqb (key x) n) (newest at k) e h in
      let q = in_newest k e r.0 in
      (q.0, q.1, ap key (sym q.2) ∙ eqb-true (key e) n r.1, q.2)

  pub keyed_in : (k n j : ℕ) → j < k → key (at j) ≡ n → In (at j) (keyed key at k n)
  keyed_in k n j b q = kept_in (λ x. eqb (key x) n) (newest at k) (at j) (newest_in k j b) (eq-eqb (key (at j)) n q)

  -- a link to an item, and then what the item's own link stands for
  from_suc : (count k : ℕ) → k < count → from key at count (suc k) ≡ at k ∷ keyed key at k (key (at k))
  from_suc count k b =
      let own : keyed key at (suc k) (key (at k)) ≡ at k ∷ keyed key at k (key (at k)) = rw (eq-eqb (key (at k)) (key (at k)) refl) in
      rw (le-leb (suc k) count (omega arith)) (ap (λ x. keyed key at (suc k) (key (at x))) (sub-one (suc k)) ∙ own)

  -- one step along the links
  pub link_step : (count a h : ℕ) → 0 < a → a ≤ count → Last (λ j. key (at j)) (a - 1) (key (at (a - 1))) h → Steps (from key at count a) (Some (at (a - 1))) (from key at count h)
  link_step count a h pos b l =
      let q : a ≡ suc (a - 1) = omega arith in
      let m : a - 1 < count = omega arith in
      let start : from key at count a ≡ at (a - 1) ∷ keyed key at (a - 1) (key (at (a - 1))) = ap (from key at count) q ∙ from_suc count (a - 1) m in
      let end : from key at count h ≡ keyed key at (a - 1) (key (at (a - 1))) = from_last count (a - 1) (key (at (a - 1))) h (omega arith) l in
      rw start (refl, end)

-- numbered edges are listed once
pub once_keyed : {W : Type 0} (key : Edge W → ℕ) (at : ℕ → Edge W) → ((j : ℕ) → (at j).number ≡ j) → (k n : ℕ) → Once (keyed key at k n)
once_keyed {W} key at num k n = once_kept (λ e. eqb (key e) n) (newest at k) (once_newest k)
  where
    once_newest : (k : ℕ) → Once (newest at k)
    once_newest zero = tt
    once_newest (suc k) = (
      λ e i same.
          let r = in_newest key at k e i in
          let b : r.0 < k = r.1 in
          let p : e.number ≡ r.0 = ap (λ (x : Edge W). x.number) r.2 ∙ num r.0 in
          let q : (at k).number ≡ k = num k in omega arith,
      once_newest k,
    )
