-- TurnsWords: a step on words makes, of the word of the numbers that pass one test, the word of those that pass another.
-- PutsIn: a word comes, digit by digit, from a word and from the word of the numbers that pass a test.  Assumes nothing.
use Rattle.std.specs.Prelude.{◌≡◌, ℕ, ◌^◌, ◌<◌, Bool}
use Rattle.bits.specs.Bits.{bit}
use Rattle.sets.specs.Sets.{IsWordOf}

abbrev pub TurnsWords : (ℕ → ℕ → ℕ → Type 0) → (ℕ → Bool) → (ℕ → Bool) → Type 0
TurnsWords step p q = (i w r : ℕ) → i < 2 ^ 64 → w < 2 ^ 64 → IsWordOf p i w → step i w r → IsWordOf q i r

-- v is the word of q at the place i
pub record PutsIn (how : Bool → Bool → Bool) (q : ℕ → Bool) (i w r : ℕ) : Type 0 where
  pub v : ℕ
  pub at : IsWordOf q i v
  pub digits : (k : ℕ) → bit r k ≡ how (bit w k) (bit v k)
