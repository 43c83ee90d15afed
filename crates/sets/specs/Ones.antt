-- rest: the members that a cursor has still to give, ascending.  IsAhead: a word, and the members of that word among them, are
-- such that the next one to give is of that word. Assumes nothing.
use Rattle.std.specs.Prelude.{◌≡◌, ℕ, ◌^◌, ◌<◌, List}
use Rattle.bits.specs.Bits.{listing, pending}
use Rattle.sets.specs.declared.ones.IxOnes.{IxOnes}
use Rattle.sets.specs.Sets.{member, node_count}

abbrev pub rest : {S : Type 0} → IxOnes S → List ℕ
rest c = listing (pending (member c.set.now) c.row c.bits) (node_count c.set.now)

pub record IsAhead {S : Type 0} (c : IxOnes S) (row bits : ℕ) : Type 0 where
  pub some : 0 < bits
  pub fits : bits < 2 ^ 64
  pub same : (n : ℕ) → pending (member c.set.now) row bits n ≡ pending (member c.set.now) c.row c.bits n
