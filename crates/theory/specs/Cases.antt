-- The worked cases: small graphs, what is asked of them, and the answers.
-- Kind: what an edge needs to be followed.  rule_of: the rule of a verdict that accepts masks which share a bit with the wanted one.
-- Asked: what is asked: a resolve, or the roots or links of a list, or a list's symmetric difference with itself.
-- Case: a graph, what is asked, the answer.  answer_of: the answer by the definitions.  cases: the table.
-- CasesStand: each row's answer is the one that the definitions give. Assumes nothing.
use Rattle.std.specs.Prelude.{◌≡◌, ℕ, Bool, true, false, cond, not, ◌&&◌, ◌||◌, List, [], ◌∷◌, map, Some, None, filter, Option, ◌==◌, bit_and, nat_eq}
use Rattle.theory.specs.Edges.{Edge, In, leaves, enters}
use Rattle.theory.specs.Rules.{Rule, in_turn}
use Rattle.theory.specs.Walk.{start, run, enough}
use Rattle.theory.specs.PostOrder.{below}
use Rattle.theory.specs.Listings.{Direction, Forward, Reverse, far, followed, some, roots, links}

-- an edge that is always followed, one with a whole link, or a weak one with an optional link and a release node
pub data Kind : Type 0 where
  Free : Kind
  Whole : ℕ → Kind
  Weak : ℕ → ℕ → Kind

abbrev accepts : ℕ → ℕ → Bool
accepts wanted mask = not (bit_and wanted mask == 0)

-- along the edges a weak one waits for its release node; against them it passes
abbrev passes : Direction → ℕ → Kind → Bool
passes d wanted Free = true
passes d wanted (Whole mask) = accepts wanted mask
passes Forward wanted (Weak mask release) = false
passes Reverse wanted (Weak mask release) = accepts wanted mask

abbrev waits : Direction → ℕ → Kind → Option ℕ
waits d wanted Free = None
waits d wanted (Whole mask) = None
waits Forward wanted (Weak mask release) = cond (accepts wanted mask) (Some release) None
waits Reverse wanted (Weak mask release) = None

abbrev pub rule_of : Direction → ℕ → Rule (Edge Kind)
rule_of d wanted = in_turn (λ e. passes d wanted e.weight) (λ e. waits d wanted e.weight)

pub data Asked : Type 0 where
  Members : Direction → (wanted : ℕ) → (initials : List ℕ) → Asked
  Roots : Direction → (list : List ℕ) → Asked
  Links : Direction → (list : List ℕ) → Asked
  WithItself : (list : List ℕ) → Asked

-- the edges are listed the latest first; an answer has nodes, or the numbers of edges
pub record Case : Type 0 where
  pub bound : ℕ
  pub edges : List (Edge Kind)
  pub asked : Asked
  pub answer : List ℕ

abbrev outs_of : List (Edge Kind) → ℕ → List (Edge Kind)
outs_of es n = filter (leaves n) es

abbrev ins_of : List (Edge Kind) → ℕ → List (Edge Kind)
ins_of es n = filter (enters n) es

abbrev listed : List ℕ → ℕ → Bool
listed list n = some (nat_eq n) list

abbrev pub differs : Bool → Bool → Bool
differs a b = (a && not b) || (not a && b)

unfoldable pub answer_to : Asked → ℕ → List (Edge Kind) → List ℕ
answer_to (Members d wanted initials) bound es =
    filter (run (followed d (outs_of es) (ins_of es)) (far d) (rule_of d wanted) (enough (followed d (outs_of es) (ins_of es)) initials bound) (start initials)).seen (below bound)
answer_to (Roots d list) bound es = roots d (listed list) (outs_of es) (ins_of es) bound
answer_to (Links d list) bound es = map (λ e. e.number) (links d (listed list) (outs_of es) (ins_of es) bound)
answer_to (WithItself list) bound es = filter (λ n. differs (listed list n) (listed list n)) (below bound)

abbrev pub answer_of : Case → List ℕ
answer_of c = answer_to c.asked c.bound c.edges

abbrev edge : ℕ → ℕ → ℕ → Kind → Edge Kind
edge number source target kind = record { source = source; target = target; number = number; weight = kind }

abbrev case : ℕ → List (Edge Kind) → Asked → List ℕ → Case
case bound es asked answer = record { bound = bound; edges = es; asked = asked; answer = answer }

-- 0 → 1, 1 → 3 once 2 is in, 0 → 2
abbrev four_nodes : List (Edge Kind)
four_nodes = edge 2 0 2 (Whole 1) ∷ edge 1 1 3 (Weak 1 2) ∷ edge 0 0 1 Free ∷ []

abbrev self_loop : List (Edge Kind)
self_loop = edge 0 0 0 Free ∷ []

abbrev two_node_loop : List (Edge Kind)
two_node_loop = edge 1 1 0 Free ∷ edge 0 0 1 Free ∷ []

-- 0 → 1, and the loop 1 → 2 → 3 → 1
abbrev loop_behind : List (Edge Kind)
loop_behind = edge 3 3 1 Free ∷ edge 2 2 3 Free ∷ edge 1 1 2 Free ∷ edge 0 0 1 Free ∷ []

abbrev weak_released : Case
weak_released = case 4 four_nodes (Members Forward 1 (0 ∷ [])) (0 ∷ 1 ∷ 2 ∷ 3 ∷ [])

abbrev weak_released_links : Case
weak_released_links = case 4 four_nodes (Links Forward (0 ∷ 1 ∷ 2 ∷ 3 ∷ [])) (0 ∷ 1 ∷ 2 ∷ [])

abbrev other_mask : Case
other_mask = case 4 four_nodes (Members Forward 2 (0 ∷ [])) (0 ∷ 1 ∷ [])

abbrev weak_reversed : Case
weak_reversed = case 4 four_nodes (Members Reverse 1 (3 ∷ [])) (0 ∷ 1 ∷ 3 ∷ [])

abbrev no_initials : Case
no_initials = case 4 four_nodes (Members Forward 1 []) []

abbrev self_loop_root : Case
self_loop_root = case 1 self_loop (Roots Forward (0 ∷ [])) (0 ∷ [])

abbrev self_loop_link : Case
self_loop_link = case 1 self_loop (Links Forward (0 ∷ [])) (0 ∷ [])

abbrev loop_roots : Case
loop_roots = case 2 two_node_loop (Roots Forward (0 ∷ 1 ∷ [])) (0 ∷ 1 ∷ [])

abbrev cut_component : Case
cut_component = case 4 loop_behind (Links Forward (0 ∷ 1 ∷ 3 ∷ [])) (0 ∷ [])

abbrev with_itself : Case
with_itself = case 4 four_nodes (WithItself (0 ∷ 2 ∷ 3 ∷ [])) []

abbrev pub cases : List Case
cases =
    weak_released ∷ weak_released_links ∷ other_mask ∷ weak_reversed ∷ no_initials ∷ self_loop_root ∷ self_loop_link ∷ loop_roots ∷ cut_component ∷ with_itself ∷ []

abbrev pub CasesStand : Type 0
CasesStand = (c : Case) → In c cases → answer_of c ≡ c.answer
