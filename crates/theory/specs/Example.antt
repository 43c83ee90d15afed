-- A graph of three nodes: a loop of 0 and 1, an edge from 1 to 2, and a loop at 2.
-- edge: an edge by its number.  example_outs, example_ins: its lists.  is_node: its nodes.  no_one: a set without node 1.
-- one_edge: far ends of a graph with one edge, from 0 to 1.
-- Example: what the laws ask for is met, and the components, roots, order and links are these.
-- Assumes nothing.
use Rattle.std.specs.Prelude.{◌≡◌, ℕ, zero, suc, Bool, not, List, [], ◌∷◌, map, ◌==◌, nat_lt}
use Rattle.theory.specs.Edges.{Edge}
use Rattle.theory.specs.Graphs.{Sound, Tied}
use Rattle.theory.specs.Reach.{Same, Inside, targets, sources}
use Rattle.theory.specs.PostOrder.{Post, below, sweep, fuel}
use Rattle.theory.specs.Components.{components}
use Rattle.theory.specs.Listings.{Forward, Reverse, roots, order, links, Whole}

abbrev pub edge : ℕ → Edge ℕ
edge zero = record { source = 0; target = 1; number = 0; weight = 0 }
edge (suc zero) = record { source = 1; target = 0; number = 1; weight = 0 }
edge (suc (suc zero)) = record { source = 1; target = 2; number = 2; weight = 0 }
edge (suc (suc (suc n))) = record { source = 2; target = 2; number = 3; weight = 0 }

abbrev pub example_outs : ℕ → List (Edge ℕ)
example_outs zero = edge 0 ∷ []
example_outs (suc zero) = edge 1 ∷ edge 2 ∷ []
example_outs (suc (suc zero)) = edge 3 ∷ []
example_outs (suc (suc (suc n))) = []

abbrev pub example_ins : ℕ → List (Edge ℕ)
example_ins zero = edge 1 ∷ []
example_ins (suc zero) = edge 0 ∷ []
example_ins (suc (suc zero)) = edge 2 ∷ edge 3 ∷ []
example_ins (suc (suc (suc n))) = []

abbrev pub is_node : ℕ → Bool
is_node n = nat_lt n 3

abbrev pub no_one : ℕ → Bool
no_one n = not (n == 1)

abbrev pub one_edge : ℕ → List ℕ
one_edge zero = 1 ∷ []
one_edge (suc n) = []

abbrev numbers : List (Edge ℕ) → List ℕ
numbers es = map (λ e. e.number) es

pub record Example : Type 0 where
  pub sound : Sound is_node 3 4 example_outs
  pub tied : Tied example_outs example_ins
  pub whole : Whole (targets example_outs) is_node
  pub groups : components (targets example_outs) (sources example_ins) 3 ≡ ((0 ∷ 1 ∷ []) ∷ (2 ∷ []) ∷ [])
  pub roots_forward : roots Forward is_node example_outs example_ins 3 ≡ (0 ∷ 1 ∷ [])
  pub roots_reverse : roots Reverse is_node example_outs example_ins 3 ≡ (2 ∷ [])
  pub roots_few : roots Forward no_one example_outs example_ins 3 ≡ (0 ∷ 2 ∷ [])
  pub order_forward : order Forward is_node example_outs example_ins 3 ≡ (0 ∷ 1 ∷ 2 ∷ [])
  pub order_reverse : order Reverse is_node example_outs example_ins 3 ≡ (2 ∷ 1 ∷ 0 ∷ [])
  pub links_forward : numbers (links Forward is_node example_outs example_ins 3) ≡ (2 ∷ 3 ∷ 1 ∷ 0 ∷ [])
  pub links_reverse : numbers (links Reverse is_node example_outs example_ins 3) ≡ (3 ∷ 2 ∷ 0 ∷ 1 ∷ [])
  pub links_few : numbers (links Forward no_one example_outs example_ins 3) ≡ (3 ∷ [])
  pub one_edge_inside : Inside 2 one_edge
  pub one_edge_swept : (sweep one_edge (fuel one_edge 2) (below 2) [] []).fin ≡ (0 ∷ 1 ∷ [])
  pub one_edge_post : Post one_edge (0 ∷ 1 ∷ [])
  pub one_edge_loopless : (x y : ℕ) → Same one_edge x y → x ≡ y
