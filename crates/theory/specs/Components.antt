-- Kosaraju: the components of a graph, from a walk over the graph turned and a gathering along the graph itself.
-- take, pull, gather: the gathering of one component.  Found, group, collect: what is found, of the next and of all.  flat: groups in one list.
-- components: the list of components.  Classes: each group is a whole component.  Onward: no edge runs to an earlier group.
-- Components: what right components are.  GraphLaw: a law of every graph.
-- GatherSteps: how to follow a gathering turn by turn.
-- GroupsAreComponents, EdgesRunOnward, GatherFits, StacksFit, GatherGoesBySteps: laws.
-- Assumes nothing.
use Rattle.std.specs.Prelude.{◌≡◌, ℕ, zero, suc, ◌+◌, ◌<◌, ◌≤◌, Bool, ◌⊎◌, List, [], ◌∷◌, ◌++◌, reverse, length}
use Rattle.theory.specs.Edges.{Edge, In, Distinct}
use Rattle.theory.specs.Graphs.{Sound, Tied}
use Rattle.theory.specs.Reach.{Same, Inside, targets, sources}
use Rattle.theory.specs.PostOrder.{Before, in?, below, fresh, State, run, sweep, fuel, share}

-- A new top is taken, and its far ends not yet taken are stacked. `disc` is what is taken in all, `fin` the group, the latest first.
abbrev pub take : (ℕ → List ℕ) → (v : ℕ) (s t g : List ℕ) → Dec (In v t) → State
take out v s t g (yes h) = record { stack = s; disc = t; fin = g }
take out v s t g (no n) = record { stack = fresh (v ∷ t) (out v) ++ s; disc = v ∷ t; fin = v ∷ g }

abbrev pub pull : (ℕ → List ℕ) → (s t g : List ℕ) → State
pull out [] t g = record { stack = []; disc = t; fin = g }
pull out (v ∷ s) t g = take out v s t g (in? v t)

-- k turns
unfoldable pub gather : (ℕ → List ℕ) → ℕ → (s t g : List ℕ) → State
gather out zero s t g = record { stack = s; disc = t; fin = g }
gather out (suc k) s t g = let x = pull out s t g in gather out k x.stack x.disc x.fin

pub record Found : Type 0 where
  pub taken : List ℕ
  pub groups : List (List ℕ)

-- the group of x, unless x is taken, goes before the others; in it the first taken comes first
abbrev pub group : (ℕ → List ℕ) → ℕ → (x : ℕ) (t : List ℕ) (gs : List (List ℕ)) → Dec (In x t) → Found
group out k x t gs (yes h) = record { taken = t; groups = gs }
group out k x t gs (no n) = let y = gather out k (x ∷ []) t [] in record { taken = y.disc; groups = reverse y.fin ∷ gs }

unfoldable pub collect : (ℕ → List ℕ) → ℕ → List ℕ → (t : List ℕ) (gs : List (List ℕ)) → List (List ℕ)
collect out k [] t gs = gs
collect out k (x ∷ l) t gs = let y = group out k x t gs (in? x t) in collect out k l y.taken y.groups

-- The components of the nodes below n, the last found first: `inn` is `out` turned, and its last finished node is looked at first.
unfoldable pub components : (out inn : ℕ → List ℕ) → ℕ → List (List ℕ)
components out inn n = collect out (fuel out n) (sweep inn (fuel inn n) (below n) [] []).fin [] []

abbrev pub flat : List (List ℕ) → List ℕ
flat [] = []
flat (g ∷ gs) = g ++ flat gs

-- each group is a whole component
abbrev pub Classes : (ℕ → List ℕ) → List (List ℕ) → Type 0
Classes out [] = Unit {0}
Classes out (g ∷ gs) =
    ((x : ℕ) × ((w : ℕ) → In w g → Same out x w) × ((w : ℕ) → Same out x w → In w g)) × Classes out gs

-- an edge out of a group stays in it, or runs to a later one
abbrev pub Onward : (ℕ → List ℕ) → List (List ℕ) → Type 0
Onward out [] = Unit {0}
Onward out (g ∷ gs) = ((u w : ℕ) → In u g → In w (out u) → In w g ⊎ In w (flat gs)) × Onward out gs

-- The groups are the components of the nodes below n, each node once, and edges run onward. A number below n that no edge
-- touches is a component of its own.
pub record Components (out : ℕ → List ℕ) (n : ℕ) (gs : List (List ℕ)) : Type 0 where
  pub all : (x : ℕ) → x < n → In x (flat gs)
  pub nodes : (x : ℕ) → In x (flat gs) → x < n
  pub once : Distinct (flat gs)
  pub classes : Classes out gs
  pub onward : Onward out gs

-- a law of every graph whose edges carry records of the type W
abbrev pub GraphLaw : (W : Type 0) → (ℕ → ℕ → (ℕ → List (Edge W)) → (ℕ → List (Edge W)) → Type 0) → Type 0
GraphLaw W Law =
    (node : ℕ → Bool) (bound edges : ℕ) (outs ins : ℕ → List (Edge W)) → Sound node bound edges outs → Tied outs ins → Law bound edges outs ins

-- the groups of a graph are its components
abbrev pub GroupsAreComponents : Type 0 → Type 0
GroupsAreComponents W =
    GraphLaw W (λ bound edges outs ins. Components (targets outs) bound (components (targets outs) (sources ins) bound))

-- an edge between two components runs from the earlier to the later
abbrev pub EdgesRunOnward : Type 0 → Type 0
EdgesRunOnward W =
    GraphLaw W (λ bound edges outs ins.
    (n : ℕ) (e : Edge W) → In e (outs n) → (Same (targets outs) e.source e.target → ⊥) →
    Before e.source e.target (flat (components (targets outs) (sources ins) bound)))

-- at any time the stack has no more than it had and a place for each edge out of a node taken since
abbrev pub GatherFits : Type 0
GatherFits =
    (out : ℕ → List ℕ) (n : ℕ) → Inside n out → (k : ℕ) (s t g : List ℕ) → ((v : ℕ) → In v s → v < n) → let x = gather out k s t g in
    length x.stack + share out n x.disc ≤ length s + share out n t

-- from one node, the stacks of both passes have at any time at most a place for each edge and one more
abbrev pub StacksFit : Type 0 → Type 0
StacksFit W =
    GraphLaw W (λ bound edges outs ins. (i : ℕ) → i < bound → (k : ℕ) (d f : List ℕ) →
    (length (run (sources ins) k (i ∷ []) d f).stack ≤ suc edges) ×
    (length (gather (targets outs) k (i ∷ []) d f).stack ≤ suc edges))

-- a gathering adds a turn at its end; gatherings that have ended agree; and what a turn does
pub record GatherSteps (out : ℕ → List ℕ) (s t g : List ℕ) : Type 0 where
  pub last : (k : ℕ) → gather out (suc k) s t g ≡ (let x = gather out k s t g in pull out x.stack x.disc x.fin)
  pub agree : (k m : ℕ) → (gather out k s t g).stack ≡ [] → (gather out m s t g).stack ≡ [] → gather out k s t g ≡ gather out m s t g
  pub new : (v : ℕ) → (In v t → ⊥) → pull out (v ∷ s) t g ≡ record { stack = fresh (v ∷ t) (out v) ++ s; disc = v ∷ t; fin = v ∷ g }
  pub skip : (v : ℕ) → In v t → pull out (v ∷ s) t g ≡ record { stack = s; disc = t; fin = g }

abbrev pub GatherGoesBySteps : Type 0
GatherGoesBySteps = (out : ℕ → List ℕ) (s t g : List ℕ) → GatherSteps out s t g
