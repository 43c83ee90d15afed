-- Lists of given indexes: where none is beyond the graph each is a node, and what stands among the first ones. Assumes nothing.
use Rattle.std.proofs.Common.{◌≡◌, ℕ, ◌+◌, ◌<◌, ◌||◌, eqb, leb, List, [], ◌∷◌, length, get_or, take, None, ap, ◌∙◌}
use mathlib.Core.Bool.{or-false}
use Rattle.std.proofs.lemmas.List.{take_more}
use Rattle.std.proofs.lemmas.List.Folds.{list_any-append}
use Rattle.std.proofs.lemmas.Bool.{leb-false}
use Rattle.sets.specs.Making.{among, beyond}
use Rattle.sets.proofs.Positions.{position-None}

pub all_nodes : (nodes : ℕ) (xs : List ℕ) → beyond nodes xs ≡ None → (j : ℕ) → j < length xs → get_or xs j 0 < nodes
all_nodes nodes xs none j l = leb-false nodes (get_or xs j 0) (position-None (leb nodes) xs j 0 none l)

pub among_more : (xs : List ℕ) (i n : ℕ) → i < length xs → among (take (i + 1) xs) n ≡ (among (take i xs) n || eqb n (get_or xs i 0))
among_more xs i n l =
    ap (λ ys. among ys n) (take_more xs i 0 l) ∙ list_any-append (eqb n) (take i xs) (get_or xs i 0 ∷ []) ∙ ap (λ b. among (take i xs) n || b) (or-false (eqb n (get_or xs i 0)))
