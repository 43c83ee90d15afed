-- What each call of a draft does. A draft means its nodes, its edges (the latest first) and its weak pairs.
-- set_up_refused, pair_refused, edge_refused: the first refusal that applies to a call, if one does.
-- SetsUp, TakesPair, TakesEdge: the answer, and the draft after the call; after a refusal the draft and every word of its
-- table are as they were.  Assumes nothing.
use Rattle.std.specs.Prelude.{◌≡◌, ℕ, ◌+◌, ◌-◌, ◌*◌, ◌/◌, Bool, false, cond, ◌||◌, List, [], ◌∷◌, length, Some, None, Ok, Err, Option, Result, nat_le, nat_lt}
use Rattle.theory.specs.Limits.{node_limit, edge_limit}
use Rattle.theory.specs.Pairs.{Pair}
use Rattle.index.specs.declared.records.WeakIndex.{WeakIndex}
use Rattle.index.specs.declared.refusal.Layer.TheVariants.{Graph}
use Rattle.index.specs.declared.refusal.Refusal.{Refusal}
use Rattle.index.specs.declared.refusal.Refusal.TheVariants.{TooManyNodes, TableTooShort, NoSuchNode, WeakIndexUnregistered, EdgesFull}
use Rattle.weak.specs.Registered.{register, registered}
pub use Rattle.draft.specs.State.{State, edges_of}

-- set-up

abbrev pub set_up_refused : ℕ → ℕ → Option Refusal
set_up_refused nodes long = cond (nat_lt node_limit nodes) (Some TooManyNodes) (cond (nat_lt long (2 * nodes)) (Some TableTooShort) None)

abbrev pub SetsUpBy : Option Refusal → State → ℕ → Result (Unit {0}) Refusal → State → Type 0
SetsUpBy (Some f) d nodes r d' = (r ≡ Err f) × (d' ≡ d)
SetsUpBy None d nodes r d' = (r ≡ Ok tt) × (d'.nodes ≡ nodes) × (d'.edges ≡ 0) × (d'.pairs ≡ []) × (length d'.words ≡ length d.words)

-- so many nodes, no edge and no pair
abbrev pub SetsUp : State → ℕ → Result (Unit {0}) Refusal → State → Type 0
SetsUp d nodes r d' = SetsUpBy (set_up_refused nodes (length d.words)) d nodes r d'

-- weak pairs

abbrev pub pair_refused : ℕ → ℕ → Option Refusal
pair_refused nodes release = cond (nat_le nodes release) (Some (NoSuchNode Graph 2)) None

abbrev pub TakesPairBy : Option Refusal → State → Pair → Result WeakIndex Refusal → State → Type 0
TakesPairBy (Some f) d pair r d' = (r ≡ Err f) × (d' ≡ d)
TakesPairBy None d pair r d' =
    (r ≡ register d.pairs pair) × (d' ≡ record d { pairs = registered d.pairs pair })

-- the pair's index, by the list of pairs (which refuses an unknown package edge when it is full, and is then as it was)
abbrev pub TakesPair : State → Pair → Result WeakIndex Refusal → State → Type 0
TakesPair d pair r d' = TakesPairBy (pair_refused d.nodes pair.release) d pair r d'

-- edges

-- how many edges a table of this length takes
abbrev pub room_for : ℕ → ℕ → ℕ
room_for long nodes = (long - 2 * nodes) / 8

abbrev pub unregistered : ℕ → Option WeakIndex → Bool
unregistered count None = false
unregistered count (Some i) = nat_le count i.0

abbrev pub edge_refused : State → ℕ → ℕ → Option WeakIndex → Option Refusal
edge_refused d s t weak =
    cond (nat_le d.nodes s) (Some (NoSuchNode Graph 0))
    (cond (nat_le d.nodes t) (Some (NoSuchNode Graph 1))
    (cond (unregistered (length d.pairs) weak) (Some WeakIndexUnregistered)
    (cond (nat_le edge_limit d.edges || nat_le (room_for (length d.words) d.nodes) d.edges) (Some EdgesFull)
    None)))

-- the edge comes first of all edges, with the next number; nodes, pairs and the table's length stay
pub record Added {W : Type 0} (held : List ℕ → W) (d : State) (s t : ℕ) (w : W) (d' : State) : Type 0 where
  pub laid : edges_of held d' ≡ record { source = s; target = t; number = d.edges; weight = w } ∷ edges_of held d
  pub edges : d'.edges ≡ d.edges + 1
  pub nodes : d'.nodes ≡ d.nodes
  pub pairs : d'.pairs ≡ d.pairs
  pub long : length d'.words ≡ length d.words

abbrev pub TakesEdgeBy : {W : Type 0} → Option Refusal → (List ℕ → W) → State → ℕ → ℕ → W → Result ℕ Refusal → State → Type 0
TakesEdgeBy (Some f) held d s t w r d' = (r ≡ Err f) × (d' ≡ d)
TakesEdgeBy None held d s t w r d' = (r ≡ Ok d.edges) × Added held d s t w d'

abbrev pub TakesEdge : {W : Type 0} → (List ℕ → W) → Option WeakIndex → State → ℕ → ℕ → W → Result ℕ Refusal → State → Type 0
TakesEdge held weak d s t w r d' = TakesEdgeBy (edge_refused d s t weak) held d s t w r d'
