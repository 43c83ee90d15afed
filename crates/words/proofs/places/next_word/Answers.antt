-- A word stands between two blanks, or the ends of the text.
use Rattle.std.proofs.Common.{rules, arith}
use Rattle.words.proofs.Runs.{is_word, no_word}
use Rattle.words.proofs.places.next_word.Goals as goal

pub returns-then-start-text-clause-word : goal.returns-then-start-text-clause-word
returns-then-start-text-clause-word c = search (rules, no_word)

pub returns-clause-word : goal.returns-clause-word
returns-clause-word c = is_word _ _ _ _ (search rules) (omega arith) (search rules)
