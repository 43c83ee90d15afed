-- The sample graph: what its walks compute, and its least sets. Assumes nothing.
use Rattle.std.proofs.Common.{ℕ, zero, suc, ◌<◌, [], ◌∷◌, refl, inl, inr, arith}
use Rattle.theory.specs.Edges.{In}
use Rattle.theory.specs.Rules.{Fair}
use Rattle.theory.specs.Least.{Finite}
use Rattle.theory.specs.Walk.{start, run, order}
use Rattle.theory.specs.Sample.{outs, end_of, waiting, sample, FromSource, FromMiddle, SampleWalk}
use Rattle.theory.proofs.Asking.{in_turn_fair}
use Rattle.theory.proofs.Walking.{walk_is_least}
use Rattle.theory.proofs.Running.{run_walks}
use Rattle.theory.proofs.Ending.{run_ends}

sample_fair : Fair sample
sample_fair = in_turn_fair sample.passes waiting

end_below : (e : ℕ) → end_of e < 4
end_below zero = omega arith
end_below (suc zero) = omega arith
end_below (suc (suc e)) = omega arith

sample_finite : Finite outs end_of (0 ∷ []) 4
sample_finite = record { starts = first; ends = λ u e _ _. end_below e }
  where
    first : (i : ℕ) → In i (0 ∷ []) → i < 4
    first i (inl q) = omega arith
    first i (inr n) = absurd n

pub sample_walk : SampleWalk
unfolding run order
sample_walk = record {
  fair = sample_fair;
  finite = sample_finite;
  turns = refl;
  ends = run_ends outs end_of sample sample_fair (0 ∷ []) 4 sample_finite 11 (omega arith);
  nodes = refl;
  nodes_of_both = refl;
}

pub from_source : FromSource
unfolding run order
from_source = walk_is_least outs end_of sample sample_fair (0 ∷ []) (order outs end_of sample 11 (start (0 ∷ [])) []) (run outs end_of sample 11 (start (0 ∷ []))) (run_walks outs end_of sample (0 ∷ []) 11 refl) refl

pub from_middle : FromMiddle
unfolding run order
from_middle = walk_is_least outs end_of sample sample_fair (1 ∷ []) (order outs end_of sample 11 (start (1 ∷ [])) []) (run outs end_of sample 11 (start (1 ∷ []))) (run_walks outs end_of sample (1 ∷ []) 11 refl) refl
