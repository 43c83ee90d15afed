-- The form of an edge in a feature graph: its name, its masks and its numbers, from left to right.
use Rattle.std.specs.Prelude.{[], ◌∷◌, Ok, Err, codes, Result}
use Rattle.words.specs.declared.Span.{Span}
use Rattle.records.specs.declared.complaints.Complaint.{Complaint}
use Rattle.records.specs.declared.complaints.Complaint.TheVariants.{UnknownForm}
use Rattle.records.specs.declared.values.Form.{Form}
use Rattle.records.specs.declared.values.Form.TheVariants.{Named, Base, Section, Colon, Strong, Weak, WeakAt}
use Rattle.records.specs.Words.{Rest, and_then, named, bytes_of, past, word_at, number_at, mask_at, dash_or_mask_at}

-- section M
abbrev pub section_at : Rest → Result Form Complaint
section_at rest = and_then (mask_at rest) (λ m. Ok (Section m))

-- colon M
abbrev pub colon_at : Rest → Result Form Complaint
colon_at rest = and_then (mask_at rest) (λ m. Ok (Colon m))

-- strong M
abbrev pub strong_at : Rest → Result Form Complaint
strong_at rest = and_then (mask_at rest) (λ m. Ok (Strong m))

-- weak REQ OPT REL PE
abbrev pub weak_at : Rest → Result Form Complaint
weak_at rest =
    and_then (dash_or_mask_at rest) (λ required.
    and_then (mask_at (past 1 rest)) (λ optional.
    and_then (number_at (past 2 rest)) (λ release.
    and_then (number_at (past 3 rest)) (λ edge.
    Ok (Weak required optional release edge)))))

-- weakat REQ OPT INDEX
abbrev pub weak_place_at : Rest → Result Form Complaint
weak_place_at rest =
    and_then (dash_or_mask_at rest) (λ required.
    and_then (mask_at (past 1 rest)) (λ optional.
    and_then (number_at (past 2 rest)) (λ index.
    Ok (WeakAt required optional index))))

-- the form that the word w names, with the words from `at` on
abbrev pub form_named : Rest → Span → Result Form Complaint
form_named rest w =
    named (bytes_of rest w) (Err (UnknownForm w)) (
    (codes "named", Ok Named) ∷
    (codes "base", Ok Base) ∷
    (codes "section", section_at rest) ∷
    (codes "colon", colon_at rest) ∷
    (codes "strong", strong_at rest) ∷
    (codes "weak", weak_at rest) ∷
    (codes "weakat", weak_place_at rest) ∷ [])

-- the form whose name is the next word
abbrev pub form_at : Rest → Result Form Complaint
form_at rest = and_then (word_at rest) (λ w. form_named (past 1 rest) w)
