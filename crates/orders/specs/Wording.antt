-- The text of each answer, in bytes.  Writes: a call added a text, unless memory was wanting.
-- refusal_text, complaint_text, pair_text, size_text: one line each, without its end.
-- list_text: an `out` or `into` line: the node, how many edges, and each as source>target#number. Assumes nothing.
use Rattle.std.specs.Prelude.{◌≡◌, ℕ, List, [], ◌∷◌, ◌++◌, Some, None, Option, length, codes, decimal, Result, OnOk}
use Rattle.std.specs.List.{between}
use Rattle.theory.specs.Edges.{Edge}
use Rattle.index.specs.Printed.{told_text}
use Rattle.index.specs.declared.refusal.Told.{Told}
use Rattle.words.specs.declared.Span.{Span}
use Rattle.records.specs.declared.Complaint.{Complaint}
use Rattle.records.specs.Complaints.{why_text, wrong_word}

-- the bytes after a call are those before it and the text, or memory was wanting
abbrev pub Writes : {X Y : Type 0} → Result X Y → List ℕ → List ℕ → List ℕ → Type 0
Writes r before text after = OnOk r (after ≡ before ++ text)

-- refused NUMBER LAYER DETAIL LINE
abbrev pub refusal_text : Told → ℕ → List ℕ
refusal_text told line = codes "refused " ++ (told_text told ++ (codes " " ++ decimal line))

-- the bytes of the word that is wrong, as it stands in the line
abbrev pub word_bytes : Option Span → List ℕ → List ℕ
word_bytes None line = []
word_bytes (Some w) line = between w.start w.end line

abbrev pub bad_text : Complaint → ℕ → List ℕ
bad_text complaint number = codes "bad line " ++ (decimal number ++ (codes ": " ++ why_text complaint))

-- bad line NUMBER: WHY
abbrev pub complaint_text : Complaint → List ℕ → ℕ → List ℕ
complaint_text complaint line number = bad_text complaint number ++ word_bytes (wrong_word complaint) line

abbrev pub pair_text : ℕ → List ℕ
pair_text index = codes "pair " ++ decimal index

-- size NODES EDGES WEAK
abbrev pub size_text : ℕ → ℕ → ℕ → List ℕ
size_text nodes edges weak = codes "size " ++ (decimal nodes ++ (codes " " ++ (decimal edges ++ (codes " " ++ decimal weak))))

-- a blank and source>target#number
abbrev pub edge_text : ℕ → ℕ → ℕ → List ℕ
edge_text source target number = codes " " ++ (decimal source ++ (codes ">" ++ (decimal target ++ (codes "#" ++ decimal number))))

abbrev pub edges_text : {W : Type 0} → List (Edge W) → List ℕ
edges_text [] = []
edges_text (e ∷ es) = edge_text e.source e.target e.number ++ edges_text es

abbrev pub head_text : List ℕ → ℕ → ℕ → List ℕ
head_text name node count = name ++ (codes " " ++ (decimal node ++ (codes " " ++ decimal count)))

-- NAME NODE COUNT and the edges
abbrev pub list_text : {W : Type 0} → List ℕ → ℕ → List (Edge W) → List ℕ
list_text name node es = head_text name node (length es) ++ edges_text es
