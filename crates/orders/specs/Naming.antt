-- begins: the first word of a line's record is this name. Assumes nothing.
use Rattle.std.specs.Prelude.{ℕ, Bool, false, List, Some, None, Option}
use Rattle.std.specs.List.{between}
use Rattle.std.specs.Str.{bytes_eq}
use Rattle.words.specs.declared.Span.{Span}
use Rattle.words.specs.Places.{record_text, word_from}

abbrev pub word_is : List ℕ → List ℕ → Option Span → Bool
word_is name text None = false
word_is name text (Some w) = bytes_eq (between w.start w.end text) name

abbrev pub begins : List ℕ → List ℕ → Bool
begins name line = word_is name (record_text line) (word_from (record_text line) 0)
