-- pairs: the list of pairs that a table means; a pair's place is its weak index.
-- register: what becomes of the list, and what is answered, as a pair comes.  KnownOnce: no package edge is registered twice.
-- Assumes nothing.
use Rattle.std.specs.Prelude.{ℕ, cond, List, [], ◌∷◌, ◌++◌, map, length, Some, None, Ok, Err, Option, Result, nat_le}
use Rattle.theory.specs.Limits.{weak_limit}
use Rattle.theory.specs.Edges.{Distinct}
use Rattle.theory.specs.Pairs.{Pair, place}
use Rattle.index.specs.declared.records.WeakIndex.{WeakIndex}
use Rattle.index.specs.declared.refusal.Refusal.{Refusal}
use Rattle.index.specs.declared.refusal.Refusal.TheVariants.{WeakIndexesFull}
use Rattle.weak.specs.declared.table.WeakDependencies.{WeakDependencies}

-- a contract sees a table as the list of its pairs
abbrev pub pairs : WeakDependencies → List Pair
pairs w = w

-- no two pairs have one package edge
abbrev pub KnownOnce : List Pair → Type 0
KnownOnce ps = Distinct (map (λ (p : Pair). p.package_edge) ps)

abbrev pub weak_index : ℕ → WeakIndex
weak_index i = record { 0 = i }

-- a known package edge answers its old index and registers nothing; a new one comes last, unless the limit is reached
abbrev pub answered : Option ℕ → List Pair → Pair → Result WeakIndex Refusal
answered (Some i) ps pair = Ok (weak_index i)
answered None ps pair = cond (nat_le weak_limit (length ps)) (Err WeakIndexesFull) (Ok (weak_index (length ps)))

abbrev pub grown : Option ℕ → List Pair → Pair → List Pair
grown (Some i) ps pair = ps
grown None ps pair = cond (nat_le weak_limit (length ps)) ps (ps ++ pair ∷ [])

-- what a list of pairs answers as a pair comes, and the list after it
abbrev pub register : List Pair → Pair → Result WeakIndex Refusal
register ps pair = answered (place pair.package_edge ps) ps pair

abbrev pub registered : List Pair → Pair → List Pair
registered ps pair = grown (place pair.package_edge ps) ps pair
