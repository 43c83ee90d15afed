-- first_two: the numbers of the first two edges of a list, as far as there are any.  others: every node but one.
-- Assumes nothing.
use Rattle.std.specs.Prelude.{ℕ, Bool, not, List, [], ◌∷◌, Some, None, Option, ◌==◌}
use Rattle.theory.specs.Edges.{Edge}

abbrev pub first_two : {W : Type 0} → List (Edge W) → Option ℕ × Option ℕ
first_two [] = (None, None)
first_two (e ∷ []) = (Some e.number, None)
first_two (e ∷ f ∷ es) = (Some e.number, Some f.number)

abbrev pub others : ℕ → ℕ → Bool
others out n = not (n == out)
