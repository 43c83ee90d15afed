-- rest_of: the edges that a cursor has still to give.  Assumes nothing.
use Rattle.std.specs.Prelude.{ℕ, List}
use Rattle.theory.specs.Edges.{Edge}
use Rattle.theory.specs.Chains.{from}
use Rattle.draft.specs.declared.finished.EdgeCursor.{EdgeCursor}
use Rattle.tables.specs.Table.{edge_at, end_of, link_word}
use Rattle.draft.specs.State.{State}

abbrev pub rest_of : {W : Type 0} → (List ℕ → W) → State → EdgeCursor → List (Edge W)
rest_of held d c = from (end_of c.direction) (edge_at held d.words d.nodes) d.edges (link_word c.next)
