-- What one word says: a name, a number or a mask. Where it says none, what is wrong.
use Rattle.std.specs.Prelude.{ℕ, zero, suc, cond, List, [], ◌∷◌, Some, None, Ok, Err, codes, Option, Result, nat_le}
use Rattle.std.specs.List.{between}
use Rattle.std.specs.Option.{ok_or}
use Rattle.std.specs.Str.{bytes_eq}
use Rattle.words.specs.declared.Span.{Span}
use Rattle.records.specs.declared.complaints.Complaint.{Complaint}
use Rattle.records.specs.declared.complaints.Complaint.TheVariants.{WordMissing, NoNumber, MaskAbove255, WordTooMany}
use Rattle.words.specs.Numbers.{number_of}
use Rattle.words.specs.Places.{word_from}

-- one reading after another: the first complaint counts
abbrev pub and_then : {A B E : Type 0} → Result A E → (A → Result B E) → Result B E
and_then (Ok x) f = f x
and_then (Err e) f = Err e

-- what a table has under a name, or something else where it lacks the name
abbrev pub named : {A : Type 0} → List ℕ → A → List (List ℕ × A) → A
named name other [] = other
named name other (row ∷ rows) = cond (bytes_eq name row.0) row.1 (named name other rows)

-- a text, and the place from which its next word is looked for
pub record Rest : Type 0 where
  pub text : List ℕ
  pub at : ℕ

-- the bytes of a word
abbrev pub bytes_of : Rest → Span → List ℕ
bytes_of rest w = between w.start w.end rest.text

-- the next word, if there is one
abbrev pub next_word : Rest → Option Span
next_word rest = word_from rest.text rest.at

-- where a word ends that was found, or else the place before
abbrev pub end_or : ℕ → Option Span → ℕ
end_or at None = at
end_or at (Some w) = w.end

-- what is left after the next word
abbrev pub after : Rest → Rest
after rest = record { text = rest.text; at = end_or rest.at (next_word rest) }

-- what is left after so many words
abbrev pub past : ℕ → Rest → Rest
past zero rest = rest
past (suc n) rest = after (past n rest)

-- the next word
abbrev pub word_at : Rest → Result Span Complaint
word_at rest = ok_or (next_word rest) WordMissing

-- the number that the word w writes
abbrev pub number_in : Rest → Span → Result ℕ Complaint
number_in rest w = ok_or (number_of (bytes_of rest w)) (NoNumber w)

-- the mask that it writes, a number of at most 255
abbrev pub mask_in : Rest → Span → Result ℕ Complaint
mask_in rest w = and_then (number_in rest w) (λ n. cond (nat_le n 255) (Ok n) (Err MaskAbove255))

-- the next word as a number
abbrev pub number_at : Rest → Result ℕ Complaint
number_at rest = and_then (word_at rest) (number_in rest)

-- the next word as a mask
abbrev pub mask_at : Rest → Result ℕ Complaint
mask_at rest = and_then (word_at rest) (mask_in rest)

-- the next word as a mask, where `-` is none
abbrev pub dash_or_mask_at : Rest → Result (Option ℕ) Complaint
dash_or_mask_at rest =
    and_then (word_at rest) (λ w.
    cond (bytes_eq (bytes_of rest w) (codes "-")) (Ok None) (
    and_then (mask_in rest w) (λ m.
    Ok (Some m))))

-- a word that follows is one too many
abbrev pub unless_word : Option Span → Result (Unit {0}) Complaint
unless_word None = Ok tt
unless_word (Some w) = Err (WordTooMany w)

-- the end of a record, where no word follows
abbrev pub end_at : Rest → Result (Unit {0}) Complaint
end_at rest = unless_word (next_word rest)
