-- meant: the edge that an answered edge stands for, its ends as plain numbers.  turned_ref: an answered edge with its ends swapped.
-- Assumes nothing.
use Rattle.std.specs.Prelude.{ℕ}
use Rattle.theory.specs.Edges.{Edge}
use Rattle.graph.specs.declared.edge.EdgeRef.{EdgeRef}

abbrev pub meant : {I W : Type 0} → (I → ℕ) → EdgeRef I W → Edge W
meant number e = record { source = number e.source; target = number e.target; number = e.number; weight = e.weight }

abbrev pub turned_ref : {I W : Type 0} → EdgeRef I W → EdgeRef I W
turned_ref e = record { source = e.target; target = e.source; number = e.number; weight = e.weight }
