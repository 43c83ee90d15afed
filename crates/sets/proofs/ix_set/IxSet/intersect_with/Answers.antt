-- The words are put together digit by digit.
use Rattle.std.proofs.Common.{◌&&◌, rules}
use Rattle.sets.specs.Sets.{member}
use Rattle.sets.proofs.Mixing.{turns}
use Rattle.sets.proofs.ix_set.IxSet.intersect_with.Goals as goal

pub returns : goal.returns
returns g c =
    let s = c.args.self.now in
    let t = c.args.other.now in
    c.change_words.ensures _ (turns ◌&&◌ _ (member s) (member t) (λ i w r e. search rules))
