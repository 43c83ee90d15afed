-- What a set means.  node_count: how many nodes its graph has.  member: whether a number is a member.
-- members: the members, ascending.  IsSetOf: a set is one of a graph of so many nodes, and its members are just the numbers
-- that pass a test.  BecomesSetOf: a set becomes that of the nodes of its graph that pass a test.  IsWordOf: a word has just
-- those of its 64 numbers that pass a test.  SameMembers: two sets have the same.  Assumes nothing.
use Rattle.std.specs.Prelude.{◌≡◌, ℕ, ◌+◌, ◌*◌, ◌<◌, Bool, ◌&&◌, List, nat_lt, vec_items}
use Rattle.bits.specs.Bits.{bit, has, listing}
use Rattle.sets.specs.declared.ix_set.IxSet.{IxSet}

abbrev pub node_count : {S : Type 0} → IxSet S → ℕ
node_count s = s.nodes

abbrev pub member : {S : Type 0} → IxSet S → ℕ → Bool
member s n = has (vec_items s.words) n

abbrev pub members : {S : Type 0} → IxSet S → List ℕ
members s = listing (member s) (node_count s)

pub record IsSetOf {S : Type 0} (p : ℕ → Bool) (count : ℕ) (s : IxSet S) : Type 0 where
  pub nodes : node_count s ≡ count
  pub members : (n : ℕ) → member s n ≡ p n

abbrev pub BecomesSetOf : {S : Type 0} → (ℕ → Bool) → IxSet S → IxSet S → Type 0
BecomesSetOf p s r = IsSetOf (λ n. p n && nat_lt n (node_count s)) (node_count s) r

-- w has just those of the numbers 64 * i to 64 * i + 63 that pass p, the lowest in bit 0
abbrev pub IsWordOf : (ℕ → Bool) → ℕ → ℕ → Type 0
IsWordOf p i w = (k : ℕ) → k < 64 → bit w k ≡ p (i * 64 + k)

-- the same numbers are members of both
abbrev pub SameMembers : {S : Type 0} → IxSet S → IxSet S → Type 0
SameMembers s t = (n : ℕ) → member s n ≡ member t n
