-- The copy has the same members; of these the other set's are taken out, digit by digit.
use Rattle.std.proofs.Common.{rules}
use Rattle.sets.specs.Combining.{Combines, and_not}
use Rattle.sets.specs.Sets.{member}
use Rattle.sets.proofs.Mixing.{turns, Combines-copy}
use Rattle.sets.proofs.ix_set.IxSet.difference.Goals as goal

pub returns : goal.returns
returns g c =
    let s = c.args.self.now in
    let t = c.args.other.now in
    let copy = c.in_ok-rest.rest in
    let made : Combines and_not copy t c.change_words.new.self = c.change_words.ensures _ (turns and_not _ (member copy) (member t) (λ i w r e. search rules)) in
    Combines-copy and_not s copy t _ c.in_ok-rest.ensures.cases made
