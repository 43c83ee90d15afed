-- outs, end_of, waiting, sample: a graph of the nodes 0 to 3 with the edges 0: 0 → 1, 1: 1 → 3, which waits on 2, and 2: 0 → 2, and its rule.
-- among: the set of the nodes of a list.
-- FromSource, FromMiddle: the least sets from 0, and from 1, where edge 1 is never let out.  SampleWalk: the walks from 0, and from 0 and 3.
-- Assumes nothing.
use Rattle.std.specs.Prelude.{◌≡◌, ℕ, zero, suc, Bool, false, not, List, [], ◌∷◌, Some, None, Option, ◌==◌}
use Rattle.theory.specs.Rules.{Rule, in_turn, Fair}
use Rattle.theory.specs.Least.{IsLeast, Finite}
use Rattle.theory.specs.Walk.{mark, start, run, order, enough}

-- each node's edges, the latest first
abbrev pub outs : ℕ → List ℕ
outs zero = 2 ∷ 0 ∷ []
outs (suc zero) = 1 ∷ []
outs (suc (suc n)) = []

abbrev pub end_of : ℕ → ℕ
end_of zero = 1
end_of (suc zero) = 3
end_of (suc (suc n)) = 2

abbrev pub waiting : ℕ → Option ℕ
waiting zero = None
waiting (suc zero) = Some 2
waiting (suc (suc n)) = None

abbrev pub sample : Rule ℕ
sample = in_turn (λ e. not (e == 1)) waiting

abbrev pub among : List ℕ → ℕ → Bool
among [] = λ _. false
among (x ∷ xs) = mark (among xs) x

-- all nodes: 2 is reached, and lets edge 1 out
abbrev pub FromSource : Type 0
FromSource = IsLeast outs end_of sample (0 ∷ []) (among (3 ∷ 2 ∷ 1 ∷ 0 ∷ []))

-- 1 alone: 2 is not reached
abbrev pub FromMiddle : Type 0
FromMiddle = IsLeast outs end_of sample (1 ∷ []) (among (1 ∷ []))

-- eleven turns do, and 1 is done first, then 3, 2 and 0; from 0 and 3, 3 is done first, then 1, 2 and 0
pub record SampleWalk : Type 0 where
  pub fair : Fair sample
  pub finite : Finite outs end_of (0 ∷ []) 4
  pub turns : enough outs (0 ∷ []) 4 ≡ 11
  pub ends : (run outs end_of sample 11 (start (0 ∷ []))).stack ≡ []
  pub nodes : order outs end_of sample 11 (start (0 ∷ [])) [] ≡ 0 ∷ 2 ∷ 3 ∷ 1 ∷ []
  pub nodes_of_both : order outs end_of sample 12 (start (0 ∷ 3 ∷ [])) [] ≡ 0 ∷ 2 ∷ 1 ∷ 3 ∷ []
