-- bit: whether a word has a binary digit.  has: whether a row of 64-bit words has a number.
-- listing: the numbers below a count that pass a test, ascending.  how_many: how many those are.
-- Lists: a list names just the numbers that pass a test, ascending and so each once.
-- pending: the numbers that a cursor has still to give.  Assumes nothing.
use Rattle.std.specs.Prelude.{◌≡◌, ℕ, ◌/◌, ◌%◌, ◌^◌, Bool, true, cond, ◌&&◌, List, length, filter, ◌==◌, nat_lt, slice_index}
use Rattle.theory.specs.Edges.{In}
use Rattle.theory.specs.PostOrder.{below}
use Rattle.theory.specs.Listings.{Ascending}

-- the digit k of the word w is 1
unfoldable pub bit : ℕ → ℕ → Bool
bit w k = w / 2 ^ k % 2 == 1

-- the number n stands in the words ws: in the word n / 64, as its digit n % 64
abbrev pub has : List ℕ → ℕ → Bool
has ws n = bit (slice_index ws (n / 64)) (n % 64)

abbrev pub listing : (ℕ → Bool) → ℕ → List ℕ
listing p n = filter p (below n)

abbrev pub how_many : (ℕ → Bool) → ℕ → ℕ
how_many p n = length (listing p n)

pub record Lists (p : ℕ → Bool) (l : List ℕ) : Type 0 where
  pub ascending : Ascending l
  pub only : (n : ℕ) → In n l → p n ≡ true
  pub all : (n : ℕ) → p n ≡ true → In n l

-- of the numbers that pass p, a cursor at the word `row` has still to give those whose digits in that word are in `bits`, and
-- those of all later words
abbrev pub pending : (ℕ → Bool) → ℕ → ℕ → ℕ → Bool
pending p row bits n = cond (n / 64 == row) (bit bits (n % 64)) (nat_lt row (n / 64) && p n)
