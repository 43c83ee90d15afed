-- Ways along a relation, and what stands in lists that are joined, turned round or mapped. Assumes nothing.
use Rattle.std.proofs.Common.{◌≡◌, ℕ, ◌⊎◌, List, [], ◌∷◌, ◌++◌, map, reverse, sym, refl, ap, subst, inl, inr, ⊎_elim}
use Rattle.std.proofs.Math.Logic.{⊎_map}
use mathlib.Core.List.{reverse_aux}
use Rattle.theory.specs.Edges.{In, Distinct}
use Rattle.theory.specs.Reach.{Reach, Same, here, more}

pub reach_trans : {E : ℕ → ℕ → Type 0} {a b c : ℕ} → Reach E a b → Reach E b c → Reach E a c
reach_trans p here = p
reach_trans p (more q e) = more (reach_trans p q) e

pub reach_eq : {E : ℕ → ℕ → Type 0} {a b : ℕ} → a ≡ b → Reach E a b
reach_eq {E} {a} e = subst (λ x. Reach E a x) e here

pub reach_one : {E : ℕ → ℕ → Type 0} {a b : ℕ} → E a b → Reach E a b
reach_one e = more here e

-- what the ways' steps keep, their ends have
pub reach_keeps : {E : ℕ → ℕ → Type 0} (P : ℕ → Type 0) → ((u w : ℕ) → P u → E u w → P w) → {a b : ℕ} → P a → Reach E a b → P b
reach_keeps P keep h here = h
reach_keeps P keep h (more r e) = keep _ _ (reach_keeps P keep h r) e

pub reach_turn : {E G : ℕ → ℕ → Type 0} (t : (a b : ℕ) → E a b → G b a) {a b : ℕ} → Reach E a b → Reach G b a
reach_turn t here = here
reach_turn t (more q e) = reach_trans (reach_one (t _ _ e)) (reach_turn t q)

pub same_trans : (out : ℕ → List ℕ) (a b c : ℕ) → Same out a b → Same out b c → Same out a c
same_trans out a b c p q = (reach_trans p.0 q.0, reach_trans q.1 p.1)

pub same_sym : (out : ℕ → List ℕ) (a b : ℕ) → Same out a b → Same out b a
same_sym out a b p = (p.1, p.0)

module _ {X : Type 0} where
  pub in_left : (x : X) (s t : List X) → In x s → In x (s ++ t)
  in_left x [] t h = absurd h
  in_left x (y ∷ s) t (inl e) = inl e
  in_left x (y ∷ s) t (inr h) = inr (in_left x s t h)

  pub in_right : (x : X) (s t : List X) → In x t → In x (s ++ t)
  in_right x [] t h = h
  in_right x (y ∷ s) t h = inr (in_right x s t h)

  pub in_cases : (x : X) (s t : List X) → In x (s ++ t) → In x s ⊎ In x t
  in_cases x [] t h = inr h
  in_cases x (y ∷ s) t (inl e) = inl (inl e)
  in_cases x (y ∷ s) t (inr h) = ⊎_map (λ a. inr a) (λ b. b) (in_cases x s t h)

  pub in_cast : {x y : X} (l : List X) → x ≡ y → In x l → In y l
  in_cast l e h = subst (λ z. In z l) e h

  -- what has D or stands in a list, where its first item has D
  pub popped : (D : X → Type 0) {v x : X} (s : List X) → D v → D x ⊎ In x (v ∷ s) → D x ⊎ In x s
  popped D s h (inl k) = inl k
  popped D s h (inr (inl e)) = inl (subst D (sym e) h)
  popped D s h (inr (inr i)) = inr i

  -- each of l pushed on s, in order
  pub pushed_in : (l s : List X) (x : X) → In x (reverse_aux l s) → In x l ⊎ In x s
  pushed_in [] s x i = inr i
  pushed_in (e ∷ l) s x i = ⊎_elim (λ a. inl (inr a)) (⊎_map (λ a. inl a) (λ a. a)) (pushed_in l (e ∷ s) x i)

  pub pushed_right : (l s : List X) (x : X) → In x s → In x (reverse_aux l s)
  pushed_right [] s x i = i
  pushed_right (e ∷ l) s x i = pushed_right l (e ∷ s) x (inr i)

  pub pushed_left : (l s : List X) (x : X) → In x l → In x (reverse_aux l s)
  pushed_left [] s x i = absurd i
  pushed_left (e ∷ l) s x (inl a) = pushed_right l (e ∷ s) x (inl a)
  pushed_left (e ∷ l) s x (inr a) = pushed_left l (e ∷ s) x a

  pub pushed_distinct : (l s : List X) → Distinct l → Distinct s → ((x : X) → In x l → In x s → ⊥) → Distinct (reverse_aux l s)
  pushed_distinct [] s a b n = b
  pushed_distinct (e ∷ l) s a b n =
      pushed_distinct l (e ∷ s) a.1 (n e (inl refl), b) (λ x i. ⊎_elim (λ q. a.0 (in_cast l q i)) (n x (inr i)))

  pub in_reverse : (l : List X) (x : X) → In x l → In x (reverse l)
  in_reverse l x i = pushed_left l [] x i

  pub reverse_in : (l : List X) (x : X) → In x (reverse l) → In x l
  reverse_in l x i = ⊎_elim (λ a. a) (λ z. absurd z) (pushed_in l [] x i)

  pub reverse_distinct : (l : List X) → Distinct l → Distinct (reverse l)
  reverse_distinct l d = pushed_distinct l [] d tt (λ x i z. z)

module _ {X Y : Type 0} (f : X → Y) where
  pub map_in : (l : List X) (x : X) → In x l → In (f x) (map f l)
  map_in [] x i = absurd i
  map_in (y ∷ l) x (inl e) = inl (ap f e)
  map_in (y ∷ l) x (inr i) = inr (map_in l x i)

  pub in_map : (l : List X) (y : Y) → In y (map f l) → (x : X) × In x l × (f x ≡ y)
  in_map [] y i = absurd i
  in_map (x ∷ l) y (inl e) = (x, inl refl, sym e)
  in_map (x ∷ l) y (inr i) = let r = in_map l y i in (r.0, inr r.1, r.2)
