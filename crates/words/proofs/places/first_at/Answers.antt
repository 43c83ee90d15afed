-- What `position` finds behind the first bytes.
use Rattle.std.proofs.Common.{rules}
use Rattle.std.proofs.lemmas.Iterator.{YieldsList-from_slice}
use Rattle.std.proofs.lemmas.Iterator.Search.{position_from_yields_List}
use Rattle.words.proofs.Runs.{from_position}
use Rattle.words.proofs.places.first_at.Goals as goal

pub returns-clause-value : goal.returns-clause-value
returns-clause-value g c = λ test h.
    let found = position_from_yields_List test _ _ c.position.result c.position.ensures.ran (YieldsList-from_slice _ c.iter.ensures.rest) (λ x b q k. search (rules, h)) in
    from_position test c.args.text.now c.args.from _ _ _ c.min-from.ensures found c.unwrap_or.ensures
