-- Where lines, records and words begin and end in a list of bytes.
use Rattle.std.specs.Prelude.{◌≡◌, ℕ, ◌+◌, ◌-◌, ◌<◌, ◌≤◌, min, max, Bool, true, false, cond, not, ◌&&◌, ◌||◌, List, length, take, drop, Some, None, Option, ◌==◌, nat_eq, nat_le, nat_lt, slice_index}
use Rattle.std.specs.List.{position_or_len, suffix_len}
use Rattle.words.specs.declared.spans.Span.{Span}

-- the answers that a closure may give are those of the test
abbrev pub Tests : (ℕ → Bool → Type 0) → (ℕ → Bool) → Type 0
Tests answers test = (b : ℕ) (r : Bool) → answers b r → r ≡ test b

-- the first place at or after `from` whose byte passes the test, or the end
abbrev pub first_at : (ℕ → Bool) → List ℕ → ℕ → ℕ
first_at test bs from = min from (length bs) + position_or_len test (drop from bs)

-- what that says of the bytes
pub record First (test : ℕ → Bool) (bs : List ℕ) (from at : ℕ) : Type 0 where
  pub onward : from ≤ length bs → from ≤ at
  pub within : at ≤ length bs
  pub before : (k : ℕ) → k < at → from ≤ k → test (slice_index bs k) ≡ false
  pub here : at < length bs → test (slice_index bs at) ≡ true

-- tab, line feed, vertical tab, form feed, carriage return, space
abbrev pub blank : ℕ → Bool
blank b = (nat_le 9 b && nat_le b 13) || b == 32

-- a line ends at the byte 10
abbrev pub line_end : List ℕ → ℕ → ℕ
line_end text from = first_at (λ b. nat_eq b 10) text from

-- `#` begins a comment
abbrev pub record_end : List ℕ → ℕ
record_end line = first_at (λ b. nat_eq b 35) line 0

-- a line without its comment
abbrev pub record_text : List ℕ → List ℕ
record_text line = take (record_end line) line

-- the first place at or after `from` that has no blank, or the end
abbrev pub word_start : List ℕ → ℕ → ℕ
word_start text from = first_at (λ b. not (blank b)) text from

-- the first place at or after `start` that has a blank, or the end
abbrev pub word_end : List ℕ → ℕ → ℕ
word_end text start = first_at blank text start

-- the first word that begins at or after `from`: up to the next blank, and none where only blanks follow
abbrev pub word_from : List ℕ → ℕ → Option Span
word_from text from =
    cond (nat_lt (word_start text from) (length text))
    (Some (record { start = word_start text from; end = word_end text (word_start text from) })) None

-- what that says of the bytes: blanks before the word, none in it, and one after it, or the end
pub record IsWord (text : List ℕ) (from : ℕ) (w : Span) : Type 0 where
  pub onward : from ≤ w.start
  pub some : w.start < w.end
  pub within : w.end ≤ length text
  pub before : (k : ℕ) → k < w.start → from ≤ k → blank (slice_index text k) ≡ true
  pub inside : (k : ℕ) → k < w.end → w.start ≤ k → blank (slice_index text k) ≡ false
  pub ends : w.end < length text → blank (slice_index text w.end) ≡ true

-- and where no word is found: only blanks
abbrev pub NoWord : List ℕ → ℕ → Type 0
NoWord text from = (k : ℕ) → k < length text → from ≤ k → blank (slice_index text k) ≡ true

-- where the blanks begin that a text ends with
abbrev pub trim_end : List ℕ → ℕ
trim_end text = length text - suffix_len blank text

-- a text without the blanks before and after it
abbrev pub trim : List ℕ → Span
trim text = record { start = word_start text 0; end = max (trim_end text) (word_start text 0) }
