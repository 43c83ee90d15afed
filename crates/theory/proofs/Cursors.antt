-- A cursor that answered an item had that item first. Assumes nothing.
use Rattle.std.proofs.Common.{◌≡◌, List, [], ◌∷◌, Some}
use Rattle.theory.specs.Graphs.{Steps}

pub step_some : {X : Type 0} (xs : List X) (x : X) (ys : List X) → Steps xs (Some x) ys → xs ≡ x ∷ ys
step_some [] x ys h = let p = h.0 in cc
step_some (y ∷ zs) x ys h = let p = h.0 in let q = h.1 in cc
