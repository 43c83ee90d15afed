-- The records that make a graph, word by word from left to right.
use Rattle.std.specs.Prelude.{ℕ, [], ◌∷◌, Some, None, Ok, Err, codes, Option, Result}
use Rattle.std.specs.Option.{ok_or}
use Rattle.words.specs.declared.Span.{Span}
use Rattle.records.specs.declared.complaints.Complaint.{Complaint}
use Rattle.records.specs.declared.complaints.Complaint.TheVariants.{UnknownKind, EdgeWithoutGraph, PairWithoutFeatureDraft, SetUpWithoutGraph}
use Rattle.records.specs.declared.values.Kind.{Kind}
use Rattle.records.specs.declared.values.Kind.TheVariants.{Feature, Package}
use Rattle.records.specs.declared.values.Record.{Record}
use Rattle.records.specs.declared.values.Record.TheVariants.{Graph, Pair, FeatureEdge, PackageEdge, SetUp}
use Rattle.records.specs.declared.values.Standing.{Standing}
use Rattle.records.specs.declared.values.Standing.TheVariants.{Nothing, Draft, Finished}
use Rattle.records.specs.Forms.{form_at}
use Rattle.records.specs.Words.{Rest, and_then, named, bytes_of, past, word_at, number_at, mask_at}

-- the kind of the graph to which edges are added
abbrev pub draft_of : Standing → Option Kind
draft_of Nothing = None
draft_of (Draft kind) = Some kind
draft_of Finished = None

-- the kind that the word w names
abbrev pub kind_named : Rest → Span → Result Kind Complaint
kind_named rest w =
    named (bytes_of rest w) (Err (UnknownKind w)) (
    (codes "feature", Ok Feature) ∷
    (codes "package", Ok Package) ∷ [])

-- graph KIND N: that the kind is unknown is the last complaint
abbrev pub graph_at : Rest → Result Record Complaint
graph_at rest =
    and_then (word_at rest) (λ w.
    and_then (number_at (past 1 rest)) (λ nodes.
    and_then (kind_named rest w) (λ kind.
    Ok (Graph kind nodes))))

-- pair REL PE, in the draft of a feature graph
abbrev pub pair_at : Standing → Rest → Result Record Complaint
pair_at Nothing rest = Err PairWithoutFeatureDraft
pair_at (Draft Feature) rest =
    and_then (number_at rest) (λ release.
    and_then (number_at (past 1 rest)) (λ edge.
    Ok (Pair release edge)))
pair_at (Draft Package) rest = Err PairWithoutFeatureDraft
pair_at Finished rest = Err PairWithoutFeatureDraft

-- after its two ends an edge has what the kind of its graph asks for
abbrev pub edge_of : Kind → ℕ → ℕ → Rest → Result Record Complaint
edge_of Feature source target rest = and_then (form_at rest) (λ form. Ok (FeatureEdge source target form))
edge_of Package source target rest = and_then (mask_at rest) (λ mask. Ok (PackageEdge source target mask))

-- edge S T .., in a draft
abbrev pub edge_at : Standing → Rest → Result Record Complaint
edge_at standing rest =
    and_then (ok_or (draft_of standing) EdgeWithoutGraph) (λ kind.
    and_then (number_at rest) (λ source.
    and_then (number_at (past 1 rest)) (λ target.
    edge_of kind source target (past 2 rest))))

-- setup, in a draft
abbrev pub set_up_in : Standing → Result Record Complaint
set_up_in Nothing = Err SetUpWithoutGraph
set_up_in (Draft kind) = Ok SetUp
set_up_in Finished = Err SetUpWithoutGraph
