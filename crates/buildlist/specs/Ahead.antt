-- ahead: how much a session has before it: the bytes that are unread, and a graph that is begun.  Assumes nothing.
use Rattle.std.specs.Prelude.{ℕ, ◌+◌, cond, is_some}
use Rattle.orders.specs.Unread.{unread}
use Rattle.buildlist.specs.declared.session.Session.{Session}

abbrev pub ahead : Session → ℕ
ahead session = unread session.lines + cond (is_some session.begun) 1 0
