-- Sound: what the outgoing lists of a graph keep to.  Tied: what the incoming lists have to do with the outgoing ones.
-- Steps: one step of a cursor along a list.  Assumes nothing.
use Rattle.std.specs.Prelude.{◌≡◌, ℕ, ◌<◌, ◌≤◌, Bool, true, List, [], ◌∷◌, Some, None, Option}
use Rattle.theory.specs.Edges.{Edge, In, Once}
use Rattle.theory.specs.Limits.{node_limit, edge_limit}

-- A graph is its nodes and, for each, the list of its outgoing edges. Nodes lie below `bound`, edge numbers below `edges`.
-- Every edge stands in its source's list, once, both its ends are nodes, and no other edge has its number.
pub record Sound {W : Type 0} (node : ℕ → Bool) (bound edges : ℕ) (outs : ℕ → List (Edge W)) : Type 0 where
  pub below : (n : ℕ) → node n ≡ true → n < bound
  pub source : (n : ℕ) (e : Edge W) → In e (outs n) → e.source ≡ n
  pub from : (n : ℕ) (e : Edge W) → In e (outs n) → node n ≡ true
  pub target : (n : ℕ) (e : Edge W) → In e (outs n) → node e.target ≡ true
  pub number : (n : ℕ) (e : Edge W) → In e (outs n) → e.number < edges
  pub unique : (n m : ℕ) (e f : Edge W) → In e (outs n) → In f (outs m) → e.number ≡ f.number → e ≡ f
  pub once : (n : ℕ) → Once (outs n)
  pub few_nodes : bound ≤ node_limit
  pub few_edges : edges ≤ edge_limit

-- The incoming lists hold just the edges of the outgoing ones, each once, at its target.
pub record Tied {W : Type 0} (outs ins : ℕ → List (Edge W)) : Type 0 where
  pub target : (n : ℕ) (e : Edge W) → In e (ins n) → e.target ≡ n
  pub out : (n : ℕ) (e : Edge W) → In e (ins n) → In e (outs e.source)
  pub back : (n : ℕ) (e : Edge W) → In e (outs n) → In e (ins e.target)
  pub once : (n : ℕ) → Once (ins n)

-- A step of a cursor that has the first list still to give: it answers that list's first item, or none, and has the others left.
abbrev pub Steps : {X : Type 0} → List X → Option X → List X → Type 0
Steps [] r ys = (r ≡ None) × (ys ≡ [])
Steps (x ∷ xs) r ys = (r ≡ Some x) × (ys ≡ xs)
