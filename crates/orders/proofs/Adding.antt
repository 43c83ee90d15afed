-- Texts added one after another. Assumes nothing.
use Rattle.std.proofs.Common.{◌≡◌, ℕ, List, [], ◌∷◌, ◌++◌, None, ap, append_assoc, append-nil, refl, arith}
use Rattle.theory.specs.Edges.{Edge}
use Rattle.theory.specs.Graphs.{Steps}
use Rattle.orders.specs.Wording.{edges_text}

-- a cursor that answered nothing had nothing left
pub step_none : {X : Type 0} (xs ys : List X) → Steps xs None ys → xs ≡ []
step_none [] ys h = refl
step_none (x ∷ xs) ys h = absurd (let p = h.0 in cc)

-- a head, and then the text of the edges, of which none is left at the end
pub writes_list : {W : Type 0} (before half after head : List ℕ) (rest all left : List (Edge W)) → half ≡ before ++ head → after ++ edges_text rest ≡ half ++ edges_text all → rest ≡ [] → all ≡ left → after ≡ before ++ (head ++ edges_text left)
writes_list before half after head rest all left p q e w =
    let none : edges_text rest ≡ [] = ap edges_text e in
    let whole = ap edges_text w in
    grind (arith, append_assoc {A = ℕ}, append-nil {A = ℕ})
