-- A table whose heads are cleared keeps the invariant.
use Rattle.std.proofs.Common.{◌≡◌, length, arith}
use Rattle.tables.proofs.Laying.{kept_clear}
use Rattle.draft.proofs.draft.Draft.set_up.Goals as goal

pub invariant_of-self : goal.invariant_of-self
invariant_of-self g c =
    let long : length c.clear.new.words ≡ length c.self.inside.words.now = c.clear.ensures.long in
    kept_clear _ c.args.nodes (omega arith) (omega arith) c.clear.ensures.zero
