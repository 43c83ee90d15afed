-- As many blanks are counted as the text ends with.
use Rattle.std.proofs.Common.{rules, reverse, tests, ap, ◌∙◌, ◌-◌, length}
use Rattle.std.proofs.lemmas.Iterator.Adapters.{YieldsList-from_rev_slice}
use Rattle.std.proofs.lemmas.Iterator.Consumers.{count_from_yields_List}
use Rattle.std.proofs.lemmas.Iterator.Search.{YieldsList-from_take_while}
use Rattle.std.proofs.lemmas.List.Folds.{length-prefix_len}
use Rattle.words.specs.Places.{blank}
use Rattle.words.proofs.places.trimmed_end.Goals as goal

pub returns : goal.returns
returns c =
    let text = c.args.text.now in
    let blanks = count_from_yields_List c.take_while.result _ c.count-blanks.ensures.ran (YieldsList-from_take_while _ blank (YieldsList-from_rev_slice text cc) c.take_while.ensures.closure c.take_while.ensures.done (λ x b q k. search (rules, tests))) in
    ap (λ n. length text - n) (blanks ∙ length-prefix_len blank (reverse text))
