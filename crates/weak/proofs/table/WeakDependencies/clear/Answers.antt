-- A table that was emptied keeps the invariant.
use Rattle.std.proofs.Common.{Option, None, replicate, ap, ◌∙◌, ℕ, rules}
use Rattle.weak.proofs.Hashing.{empty_hashed}
use Rattle.weak.proofs.table.WeakDependencies.clear.Goals as goal

pub invariant_of-self : goal.invariant_of-self
invariant_of-self c =
    let blank = c.fill.ensures.after (search rules) ∙ ap (λ n. replicate {A = Option ℕ} n None) c.self.invariant.long in
    rw (c.clear.ensures, c.clear-2.ensures, blank) empty_hashed
