-- A word with the bytes of a name is that name.
use Rattle.std.proofs.Common.{codes, rules, arith}
use Rattle.records.proofs.Names.{name_from_reads}
use Rattle.records.proofs.forms.form_named.Goals as goal

pub returns-in-section : goal.returns-in-section
returns-in-section c = rw (name_from_reads _ _ (codes "section") c.bytes.ensures (omega arith) (search rules)) (search rules)

pub returns-in-strong : goal.returns-in-strong
returns-in-strong c = rw (name_from_reads _ _ (codes "strong") c.bytes.ensures (omega arith) (search rules)) (search rules)

pub returns-in-weakat : goal.returns-in-weakat
returns-in-weakat c = rw (name_from_reads _ _ (codes "weakat") c.bytes.ensures (omega arith) (search rules)) (search rules)
