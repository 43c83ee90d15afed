-- beyond: the place, from 0, of the first number of a list that is no node of a graph of so many, if one is none.
-- MakesOf: a set of given numbers is made, or the first that is no node is refused.  Assumes nothing.
use Rattle.std.specs.Prelude.{◌≡◌, ℕ, Bool, List, Some, None, Ok, Err, Option, Result, nat_eq, nat_le, position}
use Rattle.std.specs.List.{list_any}
use Rattle.index.specs.declared.refusal.Layer.TheVariants.{Rack}
use Rattle.index.specs.declared.refusal.Refusal.TheVariants.{NoSuchNode}
use Rattle.sets.specs.declared.ix_set.IxSet.{IxSet}
use Rattle.sets.specs.declared.make.Unmade.{Unmade}
use Rattle.sets.specs.declared.make.Unmade.TheVariants.{Refused, NoMemory}
use Rattle.sets.specs.Sets.{IsSetOf}

-- n stands in the list
abbrev pub among : List ℕ → ℕ → Bool
among xs n = list_any (nat_eq n) xs

abbrev pub beyond : ℕ → List ℕ → Option ℕ
beyond nodes xs = position (nat_le nodes) xs

abbrev pub MakesBy : {S : Type 0} → Option ℕ → ℕ → List ℕ → Result (IxSet S) Unmade → Type 0
MakesBy (Some place) nodes xs r = r ≡ Err (Refused (NoSuchNode Rack place))
MakesBy None nodes xs (Ok s) = IsSetOf (among xs) nodes s
MakesBy None nodes xs (Err e) = e ≡ NoMemory

-- only where all are nodes, and memory is wanting, is there no set for want of memory
abbrev pub MakesOf : {S : Type 0} → ℕ → List ℕ → Result (IxSet S) Unmade → Type 0
MakesOf nodes xs r = MakesBy (beyond nodes xs) nodes xs r
