-- Gives: what a step through the lines of a text answers, and where it leaves off.
-- A line ends before the byte 10, or with the text; lines are numbered from 1. Assumes nothing.
use Rattle.std.specs.Prelude.{◌≡◌, ℕ, ◌+◌, ◌<◌, ◌≤◌, min, List, length, Some, None, Option}
use Rattle.std.specs.List.{between}
use Rattle.words.specs.Places.{line_end}
use Rattle.orders.specs.declared.lines.Line.{Line}

abbrev pub Gives : List ℕ → ℕ → ℕ → Option Line → ℕ → ℕ → Type 0
Gives text at number None at' number' = (length text ≤ at) × (at' ≡ at) × (number' ≡ number)
Gives text at number (Some line) at' number' =
    (at < length text) × (line.number ≡ number + 1) × (line.text.now ≡ between at (line_end text at) text)
    × (at' ≡ min (line_end text at + 1) (length text)) × (number' ≡ number + 1)
