-- shares: two masks of eight bits have a bit in common.
-- marked: the byte that a table has for an edge and a half is there and not 0.  Assumes nothing.
use Rattle.std.specs.Prelude.{ℕ, zero, suc, ◌+◌, ◌*◌, Bool, false, not, ◌&&◌, ◌||◌, List, ◌==◌, slice_index}
use Rattle.bits.specs.Bits.{bit}
use Rattle.index.specs.Links.{half_number}
use Rattle.index.specs.declared.links.Half.{Half}

-- some bit below k is set in both
abbrev pub share_below : ℕ → ℕ → ℕ → Bool
share_below a b zero = false
share_below a b (suc k) = share_below a b k || (bit a k && bit b k)

abbrev pub shares : ℕ → ℕ → Bool
shares a b = share_below a b 8

-- a place past the table counts as 0
abbrev pub marked : List ℕ → ℕ → Half → Bool
marked bytes edge half = not (slice_index bytes (3 * edge + half_number half) == 0)
