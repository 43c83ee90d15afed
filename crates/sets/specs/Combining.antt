-- Combines: of two sets a third is made, of the first one's graph: `how` says of a number whether the third has it, by whether
-- the first has it and whether the second has it.  and_not, xor: two ways to do so beside ◌||◌ and ◌&&◌.
-- Assumes nothing.
use Rattle.std.specs.Prelude.{Bool, not, ◌&&◌, ◌||◌}
use Rattle.sets.specs.declared.ix_set.IxSet.{IxSet}
use Rattle.sets.specs.Sets.{member, BecomesSetOf}

abbrev pub Combines : {S : Type 0} → (Bool → Bool → Bool) → IxSet S → IxSet S → IxSet S → Type 0
Combines how s t r = BecomesSetOf (λ n. how (member s n) (member t n)) s r

abbrev pub and_not : Bool → Bool → Bool
and_not a b = a && not b

abbrev pub xor : Bool → Bool → Bool
xor a b = (a && not b) || (not a && b)
