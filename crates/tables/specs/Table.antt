-- A graph in a table of words: for each node two words, the heads of its chains of outgoing and of incoming edges, and
-- then for each edge eight words: its source, its target, the next edge of the same source, the next of the same target,
-- and the four words of its record. Heads and nexts are links: an edge's number and one, or 0 where the chain ends.
-- The chain of a direction goes by an end: forward by the source, in reverse by the target.
-- end_of, end_at, end_among: that end.  touching: it is a given node.  head_at, next_at: the links of the chain.  edge_at: an edge.  laid: all, the latest first.
-- Kept: what a table keeps to.  Laid: an edge was written.  Assumes nothing.
use Rattle.std.specs.Prelude.{◌≡◌, ℕ, suc, ◌+◌, ◌*◌, ◌<◌, ◌≤◌, Bool, List, [], ◌∷◌, length, Some, None, Option, ◌==◌, ◌≢◌, slice_index}
use Rattle.theory.specs.Limits.{node_limit, edge_limit}
use Rattle.theory.specs.Edges.{Edge}
use Rattle.theory.specs.Chains.{newest, Last}
use Rattle.index.specs.declared.direction.DependencyDirection.{DependencyDirection}
use Rattle.index.specs.declared.direction.DependencyDirection.TheVariants.{Forward, Reverse}

abbrev pub source_at : List ℕ → ℕ → ℕ → ℕ
source_at ws nodes e = slice_index ws (2 * nodes + 8 * e)

abbrev pub target_at : List ℕ → ℕ → ℕ → ℕ
target_at ws nodes e = slice_index ws (2 * nodes + 8 * e + 1)

-- the four words of an edge's record
abbrev pub record_at : List ℕ → ℕ → ℕ → List ℕ
record_at ws nodes e =
    slice_index ws (2 * nodes + 8 * e + 4) ∷ slice_index ws (2 * nodes + 8 * e + 5) ∷ slice_index ws (2 * nodes + 8 * e + 6) ∷ slice_index ws (2 * nodes + 8 * e + 7) ∷ []

-- the edge with the number e, where `held` says which record four words hold
abbrev pub edge_at : {W : Type 0} → (List ℕ → W) → List ℕ → ℕ → ℕ → Edge W
edge_at held ws nodes e =
    record { source = source_at ws nodes e; target = target_at ws nodes e; number = e; weight = held (record_at ws nodes e) }

-- the edges of a table, the latest first
abbrev pub laid : {W : Type 0} → (List ℕ → W) → List ℕ → ℕ → ℕ → List (Edge W)
laid held ws nodes edges = newest (edge_at held ws nodes) edges

-- the end that a direction's chain goes by
abbrev pub end_of : {W : Type 0} → DependencyDirection → Edge W → ℕ
end_of Forward e = e.source
end_of Reverse e = e.target

abbrev pub touching : {W : Type 0} → DependencyDirection → ℕ → Edge W → Bool
touching d n e = end_of d e == n

abbrev pub end_at : DependencyDirection → List ℕ → ℕ → ℕ → ℕ
end_at Forward ws nodes e = source_at ws nodes e
end_at Reverse ws nodes e = target_at ws nodes e

-- where the head of a node's chain stands
abbrev pub head_place : DependencyDirection → ℕ → ℕ
head_place Forward n = 2 * n
head_place Reverse n = 2 * n + 1

abbrev pub head_at : DependencyDirection → List ℕ → ℕ → ℕ
head_at d ws n = slice_index ws (head_place d n)

-- the link to the next edge of an edge's chain
abbrev pub next_at : DependencyDirection → List ℕ → ℕ → ℕ → ℕ
next_at Forward ws nodes e = slice_index ws (2 * nodes + 8 * e + 2)
next_at Reverse ws nodes e = slice_index ws (2 * nodes + 8 * e + 3)

-- the word of a link
abbrev pub link_word : Option ℕ → ℕ
link_word None = 0
link_word (Some e) = suc e

-- nodes and edges are within the limits and the table, the ends are nodes, and heads and nexts tell the latest edges
-- with their ends
pub record Kept (ws : List ℕ) (nodes edges : ℕ) : Type 0 where
  pub few_nodes : nodes ≤ node_limit
  pub few_edges : edges ≤ edge_limit
  pub fits : 2 * nodes + 8 * edges ≤ length ws
  pub ends : (d : DependencyDirection) (e : ℕ) → e < edges → end_at d ws nodes e < nodes
  pub heads : (d : DependencyDirection) (n : ℕ) → n < nodes → Last (end_at d ws nodes) edges n (head_at d ws n)
  pub nexts : (d : DependencyDirection) (e : ℕ) → e < edges → Last (end_at d ws nodes) e (end_at d ws nodes e) (next_at d ws nodes e)
  deriving IsProp as Kept-prop

-- the one of two ends that a direction's chain goes by
abbrev pub end_among : DependencyDirection → ℕ → ℕ → ℕ
end_among Forward s t = s
end_among Reverse s t = t

-- an edge was written into the table and put at the front of its two chains; all else is as it was
pub record Laid (ws vs : List ℕ) (nodes e s t : ℕ) (words : List ℕ) : Type 0 where
  pub long : length vs ≡ length ws
  pub ends : (d : DependencyDirection) → end_at d vs nodes e ≡ end_among d s t
  pub nexts : (d : DependencyDirection) → next_at d vs nodes e ≡ head_at d ws (end_among d s t)
  pub held : record_at vs nodes e ≡ words
  pub front : (d : DependencyDirection) → head_at d vs (end_among d s t) ≡ e + 1
  pub heads : (d : DependencyDirection) (n : ℕ) → n < nodes → n ≢ end_among d s t → head_at d vs n ≡ head_at d ws n
  pub old : (j : ℕ) → 2 * nodes ≤ j → j < 2 * nodes + 8 * e → slice_index vs j ≡ slice_index ws j
