-- State: a draft or a graph as contracts see it.  edges_of: its edges, the latest first.  Assumes nothing.
use Rattle.std.specs.Prelude.{ℕ, List}
use Rattle.theory.specs.Edges.{Edge}
use Rattle.theory.specs.Pairs.{Pair}
use Rattle.tables.specs.Table.{laid}

-- the words of its table, how many nodes and edges they hold, and the weak pairs
pub record State : Type 0 where
  pub words : List ℕ
  pub nodes : ℕ
  pub edges : ℕ
  pub pairs : List Pair

abbrev pub edges_of : {W : Type 0} → (List ℕ → W) → State → List (Edge W)
edges_of held d = laid held d.words d.nodes d.edges
