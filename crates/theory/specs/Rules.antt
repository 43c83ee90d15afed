-- Rule: what a filter says of edges: which pass, which wait on a node, and in what order held edges go out.
-- Waits: an edge waits on a node.  is_node, waits_on, stays_at: the same as tests, and the opposite.
-- was_told, hands: an edge is handed out by a filter that was told a set of nodes.  held_for, holds: what it holds after an edge.
-- Fair: of the held edges a told node lets out those that wait on it and no others, each as often as it is held.
-- in_turn: a rule with the order 'first held, first out'.  every: the rule that all edges pass.  InTurnIsFair: such rules are fair.
-- Assumes nothing.
use Rattle.std.specs.Prelude.{◌≡◌, ℕ, Bool, true, false, cond, not, ◌||◌, List, [], ◌∷◌, ◌++◌, length, Some, None, filter, Option, ◌==◌}
use Rattle.theory.specs.Edges.{In}

-- whether an edge passes; the node that it waits on, if any; and, when a node is told while edges are held, which go out, in order
pub record Rule (E : Type 0) : Type 0 where
  pub passes : E → Bool
  pub waits : E → Option ℕ
  pub frees : ℕ → List E → List E

abbrev pub Waits : {E : Type 0} → Rule E → E → ℕ → Type 0
Waits r e w = r.waits e ≡ Some w

-- whether the node is the one that is waited on, if any
abbrev pub is_node : ℕ → Option ℕ → Bool
is_node n None = false
is_node n (Some w) = w == n

abbrev pub waits_on : {E : Type 0} → Rule E → ℕ → E → Bool
waits_on r n e = is_node n (r.waits e)

abbrev pub stays_at : {E : Type 0} → Rule E → ℕ → E → Bool
stays_at r n e = not (waits_on r n e)

-- whether the node that is waited on, if any, was told
abbrev pub was_told : (ℕ → Bool) → Option ℕ → Bool
was_told told None = false
was_told told (Some w) = told w

-- an edge is handed out if it passes, or if the node that it waits on was told
abbrev pub hands : {E : Type 0} → Rule E → (ℕ → Bool) → E → Bool
hands r told e = r.passes e || was_told told (r.waits e)

abbrev pub held_for : {E : Type 0} → (ℕ → Bool) → List E → E → Option ℕ → List E
held_for told held e None = held
held_for told held e (Some w) = cond (told w) held (held ++ e ∷ [])

-- and held, behind those held before, if it waits on a node not told
abbrev pub holds : {E : Type 0} → Rule E → (ℕ → Bool) → List E → E → List E
holds r told held e = held_for told held e (r.waits e)

-- what a told node lets out waits on it and was held, all such edges go out, and as many of every kind as were held
pub record Fair {E : Type 0} (r : Rule E) : Type 0 where
  pub only : (n : ℕ) (held : List E) (e : E) → In e (r.frees n held) → In e held × Waits r e n
  pub all : (n : ℕ) (held : List E) (e : E) → In e held → Waits r e n → In e (r.frees n held)
  pub each : (n : ℕ) (held : List E) (p : E → Bool) → length (filter p (r.frees n held)) ≡ length (filter p (filter (waits_on r n) held))

-- held edges go out in the order in which they came
abbrev pub in_turn : {E : Type 0} → (E → Bool) → (E → Option ℕ) → Rule E
in_turn passes waits = record { passes = passes; waits = waits; frees = λ n held. filter (λ e. is_node n (waits e)) held }

-- every edge passes, nothing waits
abbrev pub every : {E : Type 0} → Rule E
every = in_turn (λ _. true) (λ _. None)

abbrev pub InTurnIsFair : Type 0 → Type 0
InTurnIsFair E = (passes : E → Bool) (waits : E → Option ℕ) → Fair (in_turn passes waits)
