-- Sums over the nodes that a set or a list lacks: what a node that is marked takes from them. The turns and the edges that a
-- walk has left (weight, share) are such sums. Assumes nothing.
use Rattle.std.proofs.Common.{◌≡◌, ℕ, zero, suc, ◌+◌, ◌*◌, ◌<◌, ◌≤◌, Bool, true, false, cond, ◌||◌, eqb, ◌⊎◌, List, [], ◌∷◌, length, sym, refl, ap, ◌∙◌, inl, inr, ⊎_elim, arith}
use mathlib.Core.Bool.{or-false}
use Rattle.std.proofs.lemmas.Bool.{cases_eq, cases_lt, cond_both, or_right, eq-eqb, ne_eqb}
use Rattle.theory.specs.Edges.{In}
use Rattle.theory.specs.PostOrder.{cost, in?, part, share, weight}
use Rattle.theory.specs.Walk.{mark, edges}

-- the sum of f over the nodes below n that are not in d
abbrev pub left : (ℕ → ℕ) → (ℕ → Bool) → ℕ → ℕ
left f d zero = 0
left f d (suc n) = left f d n + cond (d n) 0 (f n)

mark_other : (d : ℕ → Bool) (x n : ℕ) → (n ≡ x → ⊥) → mark d x n ≡ d n
mark_other d x n ne = ap (λ v. d n || v) (ne_eqb n x ne) ∙ or-false (d n)

-- sets that agree below n
left_same : (f : ℕ → ℕ) (d e : ℕ → Bool) (n : ℕ) → ((k : ℕ) → k < n → d k ≡ e k) → left f d n ≡ left f e n
left_same f d e zero h = refl
left_same f d e (suc n) h = let a = left_same f d e n (λ k l. h k (omega arith)) in let b = ap (λ v. cond v 0 (f n)) (h n (omega arith)) in omega arith

-- a larger function, and a set that lacks all
pub left_less : (f g : ℕ → ℕ) (d : ℕ → Bool) (n : ℕ) → ((u : ℕ) → f u ≤ g u) → left f d n ≤ left g (λ _. false) n
left_less f g d zero h = omega arith
left_less f g d (suc n) h = let a = left_less f g d n h in let b = cond_both (d n) 0 (f n) (λ v. v ≤ g n) (λ _. omega arith) (λ _. h n) in omega arith

pub left_mark : (f : ℕ → ℕ) (d : ℕ → Bool) (x n : ℕ) → x < n → d x ≡ false → left f (mark d x) n + f x ≡ left f d n
left_mark f d x zero b h = absurd (omega arith)
left_mark f d x (suc n) b h = here (cases_lt x n) (λ less. left_mark f d x n less h)
  where
    here : (x < n) ⊎ (n ≤ x) → (x < n → left f (mark d x) n + f x ≡ left f d n) → left f (mark d x) (suc n) + f x ≡ left f d (suc n)
    here (inl less) ih =
        let a = ih less in
        let c = ap (λ v. cond v 0 (f n)) (mark_other d x n (λ q. omega arith)) in
        omega arith
    here (inr more) ih =
        let q : n ≡ x = omega arith in
        let a = left_same f (mark d x) d n (λ k l. mark_other d x k (λ e. omega arith)) in
        let c : cond (mark d x n) 0 (f n) ≡ 0 = rw (or_right (d n) (eqb n x) (eq-eqb n x q)) in
        let e : cond (d n) 0 (f n) ≡ f n = rw (ap d q ∙ h) in
        let g = ap f q in
        omega arith

-- nothing is marked yet
module _ {E : Type 0} (lst : ℕ → List E) where
  pub left_edges : (n : ℕ) → left (λ u. length (lst u)) (λ _. false) n ≡ edges lst n
  left_edges zero = refl
  left_edges (suc n) = let a = left_edges n in omega arith

  pub left_twice : (n : ℕ) → left (λ u. 2 * length (lst u)) (λ _. false) n ≡ 2 * edges lst n
  left_twice zero = refl
  left_twice (suc n) = let a = left_twice n in omega arith

  pub left_turns : (n : ℕ) → left (λ u. suc (2 * length (lst u))) (λ _. false) n ≡ n + 2 * edges lst n
  left_turns zero = refl
  left_turns (suc n) = let a = left_turns n in omega arith

-- ---- the same for a list of nodes in place of the set

abbrev truth : {A : Type 0} → Dec A → Bool
truth (yes h) = true
truth (no n) = false

abbrev pub listed : List ℕ → ℕ → Bool
listed l n = truth (in? n l)

truth_yes : {A : Type 0} (c : Dec A) → A → truth c ≡ true
truth_yes (yes h) a = refl
truth_yes (no n) a = absurd (n a)

truth_no : {A : Type 0} (c : Dec A) → (A → ⊥) → truth c ≡ false
truth_no (yes h) m = absurd (m h)
truth_no (no n) m = refl

listed_more : (d : List ℕ) (v n : ℕ) (c : Dec (In n d)) → listed (v ∷ d) n ≡ (truth c || eqb n v)
listed_more d v n (yes i) = truth_yes (in? n (v ∷ d)) (inr i)
listed_more d v n (no m) = elim (cases_eq n v) [
  | inl e ↦ truth_yes (in? n (v ∷ d)) (inl e) ∙ sym (eq-eqb n v e)
  | inr k ↦ truth_no (in? n (v ∷ d)) (⊎_elim k m) ∙ sym (ne_eqb n v k)
]

pub left_listed : (f : ℕ → ℕ) (d : List ℕ) (v n : ℕ) → v < n → (In v d → ⊥) → left f (listed (v ∷ d)) n + f v ≡ left f (listed d) n
left_listed f d v n b m =
    let a = left_same f (listed (v ∷ d)) (mark (listed d) v) n (λ k _. listed_more d v k (in? k d)) in
    let c = left_mark f (listed d) v n b (truth_no (in? v d) m) in
    omega arith

pub left_unlisted : (f : ℕ → ℕ) (n : ℕ) → left f (listed []) n ≡ left f (λ _. false) n
left_unlisted f n = left_same f (listed []) (λ _. false) n (λ k _. truth_no (in? k []) (λ i. i))

module _ {X : Type 0} (out : ℕ → List X) where
  -- the turns that are left, and the edges
  pub weight_is : (n : ℕ) (d : List ℕ) → weight out n d ≡ left (λ u. suc (length (out u))) (listed d) n
  unfolding weight
  weight_is zero d = refl
  weight_is (suc n) d = let a = weight_is n d in let b = cost_is (in? n d) (length (out n)) in omega arith
    where
      cost_is : {A : Type 0} (c : Dec A) (m : ℕ) → cost c m ≡ cond (truth c) 0 (suc m)
      cost_is (yes h) m = refl
      cost_is (no k) m = refl

  pub share_is : (n : ℕ) (d : List ℕ) → share out n d ≡ left (λ u. length (out u)) (listed d) n
  unfolding share
  share_is zero d = refl
  share_is (suc n) d = let a = share_is n d in let b = part_is (in? n d) (length (out n)) in omega arith
    where
      part_is : {A : Type 0} (c : Dec A) (m : ℕ) → part c m ≡ cond (truth c) 0 m
      part_is (yes h) m = refl
      part_is (no k) m = refl
