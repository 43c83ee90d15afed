-- What the library's reader of numbers promises is the definition of a number.
use Rattle.std.proofs.Common.{rules}
use Rattle.words.proofs.Numerals.{parsed, no_text}
use Rattle.words.proofs.numbers.number.Goals as goal

pub returns : goal.returns
returns c = search (rules, parsed)

pub returns-in_err-text : goal.returns-in_err-text
returns-in_err-text c = search (rules, no_text)
