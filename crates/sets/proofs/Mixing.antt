-- Two words made one, digit by digit: the numbers of two tests, put together. And two sets put together, where a copy stands for
-- the first. Assumes nothing.
use Rattle.std.proofs.Common.{ℕ, Bool, ◌&&◌, ltb, ◌∙◌, ap₂}
use Rattle.sets.specs.declared.ix_set.IxSet.{IxSet}
use Rattle.sets.specs.Sets.{member, node_count, IsSetOf}
use Rattle.sets.specs.Stepping.{TurnsWords, PutsIn}
use Rattle.sets.specs.Combining.{Combines}

-- a step that puts the words of q into words makes the words of both tests
pub turns : (how : Bool → Bool → Bool) (step : ℕ → ℕ → ℕ → Type 0) (p q : ℕ → Bool) → ((i w r : ℕ) → step i w r → PutsIn how q i w r) → TurnsWords step p (λ n. how (p n) (q n))
turns how step p q puts i w r i< w< is did k l = let put = puts i w r did in put.digits k ∙ ap₂ how (is k l) (put.at k l)

-- a copy of the first set gives what the set gives
pub Combines-copy : {S : Type 0} (how : Bool → Bool → Bool) (s copy t r : IxSet S) → IsSetOf (member s) (node_count s) copy → Combines how copy t r → Combines how s t r
Combines-copy how s copy t r same made = record {
  nodes = made.nodes ∙ same.nodes;
  members = λ n. made.members n ∙ ap₂ (λ x m. how x (member t n) && ltb n m) (same.members n) same.nodes;
}
