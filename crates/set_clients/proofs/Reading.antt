-- What the contracts of sets say at concrete numbers: the members of a set that was made, and what a cursor gives.
-- Assumes nothing.
use Rattle.std.proofs.Common.{◌≡◌, ℕ, List, [], ◌∷◌, Some, None, Ok, Option, refl, subst}
use Rattle.std.specs.Option.{MatchOption, option_map}
use Rattle.index.specs.declared.spec.NodeIx.{NodeIx}
use Rattle.sets.specs.declared.ix_set.IxSet.{IxSet}
use Rattle.sets.specs.Sets.{IsSetOf}
use Rattle.sets.specs.Making.{MakesBy, MakesOf, among, beyond}

pub made_of : {S : Type 0} (nodes : ℕ) (xs ys : List ℕ) (s : IxSet S) → xs ≡ ys → beyond nodes ys ≡ None → MakesOf nodes xs (Ok s) → IsSetOf (among ys) nodes s
made_of nodes xs ys s e none m =
    let h : MakesBy (beyond nodes ys) nodes ys (Ok s) = subst (λ zs. MakesOf nodes zs (Ok s)) e m in
    subst (λ o. MakesBy o nodes ys (Ok s)) none h

-- a cursor that had l to give answered r and has l' left
abbrev pub Gave : {K : Type 0} → List ℕ → Option (NodeIx K) → List ℕ → Type 0
Gave l r l' = MatchOption r ((l ≡ []) × (l' ≡ [])) (λ ix. l ≡ ix.0 ∷ l')

pub gave_first : {K : Type 0} (l l' : List ℕ) (r : Option (NodeIx K)) (n : ℕ) (xs : List ℕ) → l ≡ n ∷ xs → Gave l r l' → (option_map (λ ix. ix.0) r ≡ Some n) × (l' ≡ xs)
gave_first l l' None n xs e h = cc
gave_first l l' (Some ix) n xs e h = (cc, cc)

pub gave_none : {K : Type 0} (l l' : List ℕ) (r : Option (NodeIx K)) → l ≡ [] → Gave l r l' → option_map (λ ix. ix.0) r ≡ None
gave_none l l' None e h = refl
gave_none l l' (Some ix) e h = cc

pub same_four : {A : Type 0} (a b c d a' b' c' d' : A) → a ≡ a' → b ≡ b' → c ≡ c' → d ≡ d' → (a ∷ b ∷ c ∷ d ∷ []) ≡ a' ∷ b' ∷ c' ∷ d' ∷ []
same_four a b c d a' b' c' d' p q r s = cc
