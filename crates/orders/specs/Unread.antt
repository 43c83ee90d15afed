-- unread: how many bytes of its text an iterator over lines has still to read.  Assumes nothing.
use Rattle.std.specs.Prelude.{ℕ, ◌-◌, length}
use Rattle.orders.specs.declared.lines.Lines.{Lines}

abbrev pub unread : Lines → ℕ
unread lines = length lines.text.now - lines.at
