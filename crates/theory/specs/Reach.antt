-- Reach: a way along a relation.  Leads: a list of far ends has an edge.  Same: each reaches the other, so they share a component.
-- targets, sources: the far ends of the outgoing edges, the near ends of the incoming ones.
-- Inside: every far end lies below a count.  Turned: one graph is the other with its edges turned.
-- Assumes nothing.
use Rattle.std.specs.Prelude.{ℕ, ◌<◌, List, map}
use Rattle.theory.specs.Edges.{Edge, In}

-- what is reached from a along E, a itself too
pub data Reach (E : ℕ → ℕ → Type 0) (a : ℕ) : ℕ → Type 0 where
  here : Reach E a a
  more : {b c : ℕ} → Reach E a b → E b c → Reach E a c

-- the lists of far ends lead from u to w
abbrev pub Leads : (ℕ → List ℕ) → ℕ → ℕ → Type 0
Leads out u w = In w (out u)

-- each reaches the other
abbrev pub Same : (ℕ → List ℕ) → ℕ → ℕ → Type 0
Same out u w = Reach (Leads out) u w × Reach (Leads out) w u

-- the targets of the outgoing edges, in their order
abbrev pub targets : {W : Type 0} → (ℕ → List (Edge W)) → ℕ → List ℕ
targets outs u = map (λ e. e.target) (outs u)

-- the sources of the incoming edges, in their order
abbrev pub sources : {W : Type 0} → (ℕ → List (Edge W)) → ℕ → List ℕ
sources ins u = map (λ e. e.source) (ins u)

-- every far end lies below n
abbrev pub Inside : ℕ → (ℕ → List ℕ) → Type 0
Inside n out = (u w : ℕ) → In w (out u) → w < n

-- each edge of one graph, turned, is an edge of the other
abbrev pub Turned : (ℕ → List ℕ) → (ℕ → List ℕ) → Type 0
Turned out inn = ((u w : ℕ) → In w (out u) → In u (inn w)) × ((u w : ℕ) → In u (inn w) → In w (out u))
