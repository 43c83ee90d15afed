-- The queries of a graph that is set up, and the words that name no record.
use Rattle.std.specs.Prelude.{ℕ, Ok, Err, Result}
use Rattle.words.specs.declared.Span.{Span}
use Rattle.records.specs.declared.complaints.Complaint.{Complaint}
use Rattle.records.specs.declared.complaints.Complaint.TheVariants.{UnknownCall, CallBeforeSetUp}
use Rattle.records.specs.declared.values.Record.{Record}
use Rattle.records.specs.declared.values.Record.TheVariants.{Out, Into, Size}
use Rattle.records.specs.declared.values.Standing.{Standing}
use Rattle.records.specs.declared.values.Standing.TheVariants.{Nothing, Draft, Finished}
use Rattle.records.specs.Words.{Rest, and_then, past, number_at, end_at}

-- queries come once a graph is set up
abbrev pub after_set_up : Standing → Result (Unit {0}) Complaint
after_set_up Nothing = Err CallBeforeSetUp
after_set_up (Draft kind) = Err CallBeforeSetUp
after_set_up Finished = Ok tt

-- a node, and no word after it
abbrev pub node_at : Standing → Rest → Result ℕ Complaint
node_at standing rest =
    and_then (after_set_up standing) (λ _.
    and_then (number_at rest) (λ node.
    and_then (end_at (past 1 rest)) (λ _.
    Ok node)))

-- out N
abbrev pub out_at : Standing → Rest → Result Record Complaint
out_at standing rest = and_then (node_at standing rest) (λ node. Ok (Out node))

-- into N
abbrev pub into_at : Standing → Rest → Result Record Complaint
into_at standing rest = and_then (node_at standing rest) (λ node. Ok (Into node))

-- size
abbrev pub size_at : Standing → Rest → Result Record Complaint
size_at standing rest = and_then (after_set_up standing) (λ _. and_then (end_at rest) (λ _. Ok Size))

-- a word that names no record
abbrev pub unknown_in : Standing → Span → Complaint
unknown_in Nothing w = CallBeforeSetUp
unknown_in (Draft kind) w = CallBeforeSetUp
unknown_in Finished w = UnknownCall w
