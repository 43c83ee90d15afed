-- What a filter keeps of a list of edges, and that edges of different numbers below n are at most n. Assumes nothing.
use Rattle.std.proofs.Common.{◌≡◌, ℕ, zero, suc, ◌+◌, ◌<◌, ◌≤◌, Bool, true, false, cond, not, eqb, List, [], ◌∷◌, length, filter, sym, refl, ap, ap₂, ◌∙◌, inl, inr, arith}
use Rattle.std.proofs.lemmas.Bool.{cond_both, eqb-true, eqb-false, not-true, not-false, ne_eqb, not_from_false}
use Rattle.theory.specs.Edges.{Edge, In, Once}

-- what is kept stood there, and passes
pub in_kept : {X : Type 0} (p : X → Bool) (xs : List X) (x : X) → In x (filter p xs) → In x xs × (p x ≡ true)
in_kept p [] x h = absurd h
in_kept {X} p (y ∷ ys) x h =
    cond_both (p y) (y ∷ filter p ys) (filter p ys) (λ zs. In x zs → In x (y ∷ ys) × (p x ≡ true))
    (λ t m. elim m [ inl e ↦ (inl e, ap p e ∙ t) | inr i ↦ let r = in_kept p ys x i in (inr r.0, r.1) ])
    (λ _ m. let r = in_kept p ys x m in (inr r.0, r.1))
    h

-- what stands there and passes is kept
pub kept_in : {X : Type 0} (p : X → Bool) (xs : List X) (x : X) → In x xs → p x ≡ true → In x (filter p xs)
kept_in p [] x h t = absurd h
kept_in p (y ∷ ys) x (inl e) t = rw (ap p (sym e) ∙ t) (inl e)
kept_in p (y ∷ ys) x (inr i) t =
    cond_both (p y) (y ∷ filter p ys) (filter p ys) (λ zs. In x zs) (λ _. inr (kept_in p ys x i t)) (λ _. kept_in p ys x i t)

-- what holds of a list and lasts as the first item goes, and as an item goes before a part of the rest, holds of what is kept
pub filter_keeps : {X : Type 0} (P : List X → Type 0) (p : X → Bool) → P [] → ((x : X) (xs : List X) → P (x ∷ xs) → P xs)
    → ((x : X) (xs ys : List X) → P (x ∷ xs) → ((y : X) → In y ys → In y xs) → P ys → P (x ∷ ys)) → (xs : List X) → P xs → P (filter p xs)
filter_keeps P p none rest more [] h = none
filter_keeps P p none rest more (x ∷ xs) h =
    let k = filter_keeps P p none rest more xs (rest x xs h) in
    cond_both (p x) (x ∷ filter p xs) (filter p xs) P (λ _. more x xs (filter p xs) h (λ y i. (in_kept p xs y i).0) k) (λ _. k)

pub once_kept : {W : Type 0} (p : Edge W → Bool) (es : List (Edge W)) → Once es → Once (filter p es)
once_kept p = filter_keeps Once p tt (λ e es h. h.1) (λ e es fs h sub k. (λ f i. h.0 f (sub f i), k))

-- tests that agree keep the same, a filter that none passes keeps none, and one that all pass keeps all
pub kept_same : {X : Type 0} (p q : X → Bool) (xs : List X) → ((x : X) → In x xs → p x ≡ q x) → filter p xs ≡ filter q xs
kept_same p q [] h = refl
kept_same p q (y ∷ ys) h = ap₂ (λ b zs. cond b (y ∷ zs) zs) (h y (inl refl)) (kept_same p q ys (λ x i. h x (inr i)))

pub kept_none : {X : Type 0} (p : X → Bool) (xs : List X) → ((x : X) → In x xs → p x ≡ false) → filter p xs ≡ []
kept_none p [] h = refl
kept_none p (y ∷ ys) h = rw (h y (inl refl)) (kept_none p ys (λ x i. h x (inr i)))

pub kept_all : {X : Type 0} (p : X → Bool) (xs : List X) → ((x : X) → In x xs → p x ≡ true) → filter p xs ≡ xs
kept_all p [] h = refl
kept_all p (y ∷ ys) h = rw (h y (inl refl), kept_all p ys (λ x i. h x (inr i)))

abbrev other : {W : Type 0} → ℕ → Edge W → Bool
other k e = not (eqb e.number k)

one_out : {W : Type 0} (k : ℕ) (es : List (Edge W)) → Once es → length es ≤ length (filter (other k) es) + 1
one_out k [] h = omega arith
one_out k (e ∷ es) h =
    cond_both (other k e) (e ∷ filter (other k) es) (filter (other k) es) (λ zs. length (e ∷ es) ≤ length zs + 1)
    (λ _. let r = one_out k es h.1 in omega arith)
    (λ t. let same = eqb-true e.number k (not-false _ t) in
    let all = kept_all (other k) es (λ f i. not_from_false _ (ne_eqb f.number k (λ q. h.0 f i (q ∙ sym same)))) in
    rw all (omega arith))

-- edges of different numbers below n are at most n
pub at_most : {W : Type 0} (n : ℕ) (es : List (Edge W)) → Once es → ((e : Edge W) → In e es → e.number < n) → length es ≤ n
at_most zero [] h b = omega arith
at_most zero (e ∷ es) h b = absurd (let l = b e (inl refl) in omega arith)
at_most (suc n) es h b =
    let r = at_most n (filter (other n) es) (once_kept (other n) es h)
    (λ e i. let k = in_kept (other n) es e i in
    let ne = eqb-false e.number n (not-true _ k.1) in
    let l = b e k.0 in omega arith) in
    let o = one_out n es h in omega arith
