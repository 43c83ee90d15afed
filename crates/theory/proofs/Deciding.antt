-- The table of worked cases is decided by computing: one test over all rows, and the test says what it should.
-- Assumes nothing.
use Rattle.std.proofs.Common.{◌≡◌, ℕ, Bool, true, false, ◌&&◌, eqb, List, [], ◌∷◌, sym, refl, subst, inl, inr}
use native.Mathlib.Decide.{ℕ_discrete}
use Rattle.std.proofs.lemmas.Bool.{and_parts, eqb-true}
use Rattle.theory.specs.Edges.{In}
use Rattle.theory.specs.Walk.{run}
use Rattle.theory.specs.PostOrder as post
use Rattle.theory.specs.Components.{gather, collect, components}
use Rattle.theory.specs.Listings.{roots, links, begin, shows}
use Rattle.theory.specs.Cases.{Case, answer_to, answer_of, cases, CasesStand}

abbrev same : List ℕ → List ℕ → Bool
same [] [] = true
same [] (y ∷ ys) = false
same (x ∷ xs) [] = false
same (x ∷ xs) (y ∷ ys) = eqb x y && same xs ys

same_true : (xs ys : List ℕ) → same xs ys ≡ true → xs ≡ ys
same_true [] [] h = refl
same_true [] (y ∷ ys) h = cc
same_true (x ∷ xs) [] h = cc
same_true (x ∷ xs) (y ∷ ys) h =
    let p = and_parts (eqb x y) (same xs ys) h in
    let q = eqb-true x y p.0 in
    let r = same_true xs ys p.1 in cc

abbrev holds : List Case → Bool
holds [] = true
holds (c ∷ cs) = same (answer_of c) c.answer && holds cs

each_holds : (cs : List Case) → holds cs ≡ true → (c : Case) → In c cs → answer_of c ≡ c.answer
each_holds [] h c i = absurd i
each_holds (d ∷ ds) h c (inl q) =
    let p = and_parts (same (answer_of d) d.answer) (holds ds) h in
    subst (λ x. answer_of x ≡ x.answer) (sym q) (same_true (answer_of d) d.answer p.0)
each_holds (d ∷ ds) h c (inr i) = each_holds ds (and_parts (same (answer_of d) d.answer) (holds ds) h).1 c i

decided : holds cases ≡ true
unfolding answer_to run roots links begin shows components collect gather post.sweep post.run post.below post.in? post.either? post.weight post.fuel ℕ_discrete
decided = refl

pub cases_stand : CasesStand
cases_stand = each_holds cases decided
