-- As a cursor begins it has every member to give.
use Rattle.std.proofs.Common.{sym, subst}
use Rattle.bits.specs.Bits.{Lists, pending}
use Rattle.bits.proofs.Counts.{listing_ext, listing_lists}
use Rattle.bits.proofs.Cursors.{pending_begin}
use Rattle.sets.specs.Sets.{member}
use Rattle.sets.proofs.ix_set.IxSet.ones.Goals as goal

pub returns-clause-exact : goal.returns-clause-exact
returns-clause-exact g c =
    let s = c.args.self.now in
    let same = listing_ext (pending (member s) 0 c.word.result) (member s) s.nodes (λ n _. pending_begin (member s) c.word.result n c.word.ensures) in
    subst (Lists (member s)) (sym same) (listing_lists (member s) s.nodes s.within)
