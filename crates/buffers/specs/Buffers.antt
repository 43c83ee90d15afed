-- Ref, Entry: an edge as a walk gives it, and an entry of the hold table.  meaning: the edge that it stands for.
-- state_of: the state of a weak index.  is_out: it is Released.  told_by: some index that a node releases is Released.
-- lying: the edges in the front of the hold table.  held_in: those of them that count as held.  lets_out: what an index lets
-- out of them.  handed: the front of the hand-out table.
-- seek: the first place from another on that passes a test.  Firsts, Nexts: tables that lead through the indexes of a node's
-- bucket, ascending.  released: the indexes that a node releases.  left: those from a link on.  Inside: the link names an
-- index of the node's bucket.
-- Void, Next, Last: no place passes a test; a link tells the first; a place is the last.
-- Linked, Chained: the links of the hold table lead through the edges of an index, first held first.
-- Okay: what states and hold table keep to.  Blank: indexes that are buffered and have no edge.
-- Ready, Joins, freeing, Met: what an index, in its state, makes of an event.  extended, relinked: a chain and a table with an
-- edge more.
-- Moved: an index is released, and no other changed.  Assumes nothing.
use Rattle.std.specs.Prelude.{◌≡◌, ℕ, zero, suc, ◌+◌, ◌-◌, ◌%◌, ◌<◌, ◌≤◌, Bool, true, false, cond, not, ◌&&◌, ◌||◌, List, [], ◌∷◌, ◌++◌, map, length, take, Some, None, filter, Option, ◌==◌, ◌≢◌, slice_index, slice_index_or, slice_set}
use Rattle.theory.specs.Edges.{Edge}
use Rattle.index.specs.declared.links.Link.{Link}
use Rattle.index.specs.declared.links.EdgeLinks.{EdgeLinks}
use Rattle.index.specs.declared.links.EdgeLinks.TheVariants.{NonWeak, Weak}
use Rattle.index.specs.declared.records.FeatureEdge.{FeatureEdge}
use Rattle.index.specs.declared.spec.NodeIx.{NodeIx}
use Rattle.index.specs.declared.spec.FeatureGraphSpec.{FeatureGraphSpec}
use Rattle.graph.specs.declared.edge.EdgeRef.{EdgeRef}
use Rattle.graph.specs.Meaning.{meant}
use Rattle.filter.specs.declared.buffered.Held.{Held}
use Rattle.buffers.specs.declared.states.Chain.{Chain}
use Rattle.buffers.specs.declared.states.SingleBufferState.{SingleBufferState}
use Rattle.buffers.specs.declared.states.SingleBufferState.TheVariants.{Buffered, Released}
use Rattle.buffers.specs.declared.states.Event.{Event}
use Rattle.buffers.specs.declared.states.Event.TheVariants.{Arrives, Told}
use Rattle.buffers.specs.declared.states.Outcome.{Outcome}
use Rattle.buffers.specs.declared.states.Outcome.TheVariants.{Holds, Judges, Frees, Nothing}
use Rattle.buffers.specs.Rules.{links, wanted, at_index, goes_out}

abbrev pub Ref : Type 0
Ref = EdgeRef (NodeIx FeatureGraphSpec) FeatureEdge

abbrev pub Entry : Type 0
Entry = Held Ref

abbrev pub meaning : Ref → Edge FeatureEdge
meaning e = meant (λ (x : NodeIx FeatureGraphSpec). x.0) e

abbrev pub is_out : SingleBufferState → Bool
is_out (Buffered chain) = false
is_out Released = true

abbrev pub state_of : List SingleBufferState → ℕ → SingleBufferState
state_of ss i = slice_index_or ss i (Buffered None)

-- nodes are the release nodes, by index
abbrev pub told_by : List ℕ → List SingleBufferState → ℕ → Bool
told_by [] ss w = false
told_by (n ∷ ns) [] w = false
told_by (n ∷ ns) (s ∷ ss) w = (n == w && is_out s) || told_by ns ss w

-- the weak index is not released
abbrev pub waits_in : List SingleBufferState → Option EdgeLinks → Bool
waits_in ss None = false
waits_in ss (Some (NonWeak link)) = false
waits_in ss (Some (Weak required optional index)) = not (is_out (state_of ss index.0))

abbrev pub held_one : (Link → Bool) → List SingleBufferState → Edge FeatureEdge → Bool
held_one accepts ss e = wanted accepts (links e) && waits_in ss (links e)

abbrev pub edge_of : Entry → Edge FeatureEdge
edge_of h = meaning h.edge

-- the edges that lie in the table, in the order in which they came
abbrev pub lying : ℕ → List Entry → List (Edge FeatureEdge)
lying used hold = map edge_of (take used hold)

-- what lies there for an index not released, but for what the verdict rejects
abbrev pub held_in : (Link → Bool) → List SingleBufferState → ℕ → List Entry → List (Edge FeatureEdge)
held_in accepts ss used hold = filter (held_one accepts ss) (lying used hold)

-- what index i lets out of them as its node is told
abbrev pub lets_out : (Link → Bool) → ℕ → List SingleBufferState → ℕ → List Entry → List (Edge FeatureEdge)
lets_out accepts i ss used hold = filter (goes_out accepts i) (held_in accepts ss used hold)

abbrev pub handed : ℕ → List Ref → List (Edge FeatureEdge)
handed out hand = map meaning (take out hand)

-- the edge at place k names index i
abbrev pub at_place : ℕ → List Entry → ℕ → Bool
at_place i [] k = false
at_place i (h ∷ hs) zero = at_index i (links (edge_of h))
at_place i (h ∷ hs) (suc k) = at_place i hs k

abbrev pub next_of : List Entry → ℕ → Option ℕ
next_of [] k = None
next_of (h ∷ hs) zero = h.next
next_of (h ∷ hs) (suc k) = next_of hs k

-- the first of the m places from k on that `at` has
abbrev pub seek : (ℕ → Bool) → ℕ → ℕ → Option ℕ
seek at k zero = None
seek at k (suc m) = cond (at k) (Some k) (seek at (suc k) m)

-- the release node of index i falls into bucket b; buckets are the remainders by 4,096
abbrev pub in_bucket : List ℕ → ℕ → ℕ → Bool
in_bucket nodes b i = slice_index nodes i % 4096 == b

-- for each bucket its first index from i on
abbrev pub FirstsFrom : ℕ → List ℕ → List (Option ℕ) → Type 0
FirstsFrom i nodes firsts = (b : ℕ) → b < 4096 → slice_index_or firsts b None ≡ seek (in_bucket nodes b) i (length nodes - i)

-- for each index from i on the next one of its bucket
abbrev pub NextsFrom : ℕ → List ℕ → List (Option ℕ) → Type 0
NextsFrom i nodes nexts = (j : ℕ) → i ≤ j → j < length nodes → slice_index_or nexts j None ≡ seek (in_bucket nodes (slice_index nodes j % 4096)) (j + 1) (length nodes - (j + 1))

abbrev pub Firsts : List ℕ → List (Option ℕ) → Type 0
Firsts nodes firsts = FirstsFrom 0 nodes firsts

abbrev pub Nexts : List ℕ → List (Option ℕ) → Type 0
Nexts nodes nexts = NextsFrom 0 nodes nexts

-- the index i is one that node n releases
abbrev pub of_node : List ℕ → ℕ → ℕ → Bool
of_node nodes n i = slice_index nodes i == n

-- of the m indexes from k on those that node n releases, ascending
abbrev pub released : List ℕ → ℕ → ℕ → ℕ → List ℕ
released nodes n k zero = []
released nodes n k (suc m) = cond (of_node nodes n k) (k ∷ released nodes n (suc k) m) (released nodes n (suc k) m)

abbrev pub left : List ℕ → ℕ → Option ℕ → List ℕ
left nodes n None = []
left nodes n (Some i) = released nodes n i (length nodes - i)

abbrev pub Inside : List ℕ → ℕ → Option ℕ → Type 0
Inside nodes n link = (i : ℕ) → link ≡ Some i → (i < length nodes) × (in_bucket nodes (n % 4096) i ≡ true)

-- `at` has no place from k up to n
abbrev pub Void : (ℕ → Bool) → ℕ → ℕ → Type 0
Void at k n = (i : ℕ) → k ≤ i → i < n → at i ≡ false

-- the first place from k up to n, if there is one
abbrev pub Next : (ℕ → Bool) → ℕ → ℕ → Option ℕ → Type 0
Next at n k None = Void at k n
Next at n k (Some j) = (k ≤ j) × (j < n) × (at j ≡ true) × Void at k j

-- j is the last place below n
abbrev pub Last : (ℕ → Bool) → ℕ → ℕ → Type 0
Last at n j = (j < n) × (at j ≡ true) × Void at (suc j) n

abbrev pub Linked : ℕ → ℕ → List Entry → Type 0
Linked i used hold = (k : ℕ) → k < used → at_place i hold k ≡ true → Next (at_place i hold) used (suc k) (next_of hold k)

abbrev pub Chained : ℕ → ℕ → List Entry → SingleBufferState → Type 0
Chained i used hold Released = Unit {0}
Chained i used hold (Buffered None) = Void (at_place i hold) 0 used
Chained i used hold (Buffered (Some chain)) = Next (at_place i hold) used 0 (Some chain.first) × Last (at_place i hold) used chain.last × Linked i used hold

-- indexes with one release node are released together, and a buffered index has its chain
pub record Okay (nodes : List ℕ) (ss : List SingleBufferState) (used : ℕ) (hold : List Entry) : Type 0 where
  pub long : length ss ≡ 1024
  pub fits : used ≤ length hold
  pub agree : (i j : ℕ) → i < length nodes → j < length nodes → slice_index nodes i ≡ slice_index nodes j → is_out (state_of ss i) ≡ is_out (state_of ss j)
  pub chained : (i : ℕ) → i < length nodes → Chained i used hold (state_of ss i)

-- the indexes below n are buffered and have no edge
abbrev pub Blank : ℕ → List SingleBufferState → Type 0
Blank n ss = (k : ℕ) → k < n → state_of ss k ≡ Buffered None

-- an edge that arrives has the index, which has its chain, and there is room to hold it
abbrev pub Ready : ℕ → List SingleBufferState → ℕ → List Entry → Event → Type 0
Ready i ss used hold Told = Unit {0}
Ready i ss used hold (Arrives e) = (at_index i (links (meaning e)) ≡ true) × (used < length hold) × Chained i used hold (state_of ss i)

-- a chain that ends at a new place
abbrev pub extended : ℕ → Option Chain → Chain
extended place None = record { first = place; last = place }
extended place (Some chain) = record { first = chain.first; last = place }

-- the entry at a place is linked with another
abbrev pub linked_with : ℕ → ℕ → List Entry → List Entry
linked_with next k [] = []
linked_with next zero (h ∷ hs) = record { edge = h.edge; next = Some next } ∷ hs
linked_with next (suc k) (h ∷ hs) = h ∷ linked_with next k hs

-- and so is the last entry of a chain, if there is one
abbrev pub relinked : ℕ → Option Chain → List Entry → List Entry
relinked next None hold = hold
relinked next (Some chain) hold = linked_with next chain.last hold

-- the edge lies behind all that lay in the table, and chains stay chains
pub record Joins (e : Ref) (ss ss' : List SingleBufferState) (used used' : ℕ) (hold hold' : List Entry) : Type 0 where
  pub more : used' ≡ used + 1
  pub long : length ss' ≡ length ss
  pub lies : lying used' hold' ≡ lying used hold ++ meaning e ∷ []
  pub outs : (j : ℕ) → is_out (state_of ss' j) ≡ is_out (state_of ss j)
  pub chains : (j : ℕ) → Chained j used hold (state_of ss j) → Chained j used' hold' (state_of ss' j)

-- the edges of a chain go out, from its first on
abbrev pub freeing : Option Chain → Outcome
freeing None = Nothing
freeing (Some chain) = Frees chain.first

-- a buffered index holds the edge, behind all that lies there, and gives out its edges as its node is told, when it moves on;
-- a released one has the edge judged, and of its node it makes nothing more
abbrev pub Met : ℕ → (ss ss' : List SingleBufferState) → (used used' : ℕ) → (hold hold' : List Entry) → SingleBufferState → Event → Outcome → Type 0
Met i ss ss' used used' hold hold' (Buffered chain) (Arrives e) m = (m ≡ Holds) × Joins e ss ss' used used' hold hold'
Met i ss ss' used used' hold hold' Released (Arrives e) m = (m ≡ Judges) × (used' ≡ used) × (hold' ≡ hold) × (ss' ≡ ss)
Met i ss ss' used used' hold hold' (Buffered chain) Told m = (m ≡ freeing chain) × (used' ≡ used) × (hold' ≡ hold) × (ss' ≡ slice_set ss i Released)
Met i ss ss' used used' hold hold' Released Told m = (m ≡ Nothing) × (used' ≡ used) × (hold' ≡ hold) × (ss' ≡ ss)

pub record Moved (i : ℕ) (ss ss' : List SingleBufferState) : Type 0 where
  pub long : length ss' ≡ length ss
  pub out : is_out (state_of ss' i) ≡ true
  pub others : (j : ℕ) → (j ≢ i) → state_of ss' j ≡ state_of ss j
