-- The edges before the index are turned, the others are as they were.
use Rattle.std.proofs.Common.{◌≡◌, ◌++◌, map, take, drop}
use Rattle.graph.specs.Meaning.{turned_ref}
use Rattle.filter.proofs.reversed.turn.Given as goal

abbrev pub invariant-loop-edge : goal.invariant-loop-edge
invariant-loop-edge g l = l.edges ≡ map turned_ref (take l.edge-index l.initial.edges) ++ drop l.edge-index l.initial.edges
