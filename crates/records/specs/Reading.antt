-- The record of a line: a row for each name.
use Rattle.std.specs.Prelude.{ℕ, List, [], ◌∷◌, Some, None, Ok, Err, codes, Option, Result}
use Rattle.words.specs.Places.{record_text, word_from, trim}
use Rattle.words.specs.declared.Span.{Span}
use Rattle.records.specs.declared.complaints.Complaint.{Complaint}
use Rattle.records.specs.declared.values.Record.{Record}
use Rattle.records.specs.declared.values.Record.TheVariants.{Case}
use Rattle.records.specs.declared.values.Standing.{Standing}
use Rattle.records.specs.Drafts.{graph_at, pair_at, edge_at, set_up_in}
use Rattle.records.specs.Queries.{out_at, into_at, size_at, unknown_in}
use Rattle.records.specs.Words.{Rest, and_then, named, bytes_of}

-- the record that the word w names, with the words that follow it
abbrev pub record_named : Standing → Rest → Span → Result Record Complaint
record_named standing rest w =
    named (bytes_of rest w) (Err (unknown_in standing w)) (
    (codes "case", Ok (Case (trim rest.text))) ∷
    (codes "graph", graph_at rest) ∷
    (codes "pair", pair_at standing rest) ∷
    (codes "edge", edge_at standing rest) ∷
    (codes "e", edge_at standing rest) ∷
    (codes "setup", set_up_in standing) ∷
    (codes "out", out_at standing rest) ∷
    (codes "into", into_at standing rest) ∷
    (codes "size", size_at standing rest) ∷ [])

-- the record whose first word is known; a text with no word has none
abbrev pub record_from : Standing → List ℕ → Option Span → Result (Option Record) Complaint
record_from standing text None = Ok None
record_from standing text (Some w) = and_then (record_named standing (record { text = text; at = w.end }) w) (λ r. Ok (Some r))

-- the record of a line
unfoldable pub record_of : Standing → List ℕ → Result (Option Record) Complaint
record_of standing line = record_from standing (record_text line) (word_from (record_text line) 0)
