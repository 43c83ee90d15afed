-- A word with the bytes of a name is that name.
use Rattle.std.proofs.Common.{codes, rules, arith}
use Rattle.records.proofs.Names.{name_from_reads}
use Rattle.records.proofs.drafts.kind_named.Goals as goal

pub returns-in-feature : goal.returns-in-feature
returns-in-feature c = rw (name_from_reads _ _ (codes "feature") c.bytes.ensures (omega arith) (search rules)) (search rules)

pub returns-in-package : goal.returns-in-package
returns-in-package c = rw (name_from_reads _ _ (codes "package") c.bytes.ensures (omega arith) (search rules)) (search rules)
