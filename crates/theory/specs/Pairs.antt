-- Pair: a weak pair, a package edge's number and the node that releases it.
-- listed: the items 0 to k - 1 in their order.  place: where the pair of a package edge stands in a list. Assumes nothing.
use Rattle.std.specs.Prelude.{ℕ, zero, suc, cond, List, [], ◌∷◌, ◌++◌, Some, None, Option, ◌==◌}
use Rattle.std.specs.Option.{option_map}

pub record Pair : Type 0 where
  pub package_edge : ℕ
  pub release : ℕ

-- the items below k, the first first
abbrev pub listed : {X : Type 0} → (ℕ → X) → ℕ → List X
listed at zero = []
listed at (suc k) = listed at k ++ at k ∷ []

-- the place of the first pair with this package edge, from 0
abbrev pub place : ℕ → List Pair → Option ℕ
place p [] = None
place p (x ∷ xs) = cond (x.package_edge == p) (Some 0) (option_map suc (place p xs))
