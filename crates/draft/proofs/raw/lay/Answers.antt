-- An edge's eight words are written behind those of the others, and then the two heads.
use Rattle.std.proofs.Common.{arith}
use Rattle.tables.proofs.Writing.{edge_laid}
use Rattle.draft.proofs.raw.lay.Goals as goal

pub returns : goal.returns
returns c =
    let a = c.args in
    rw (c.head_place-out_head.ensures, c.head_place-in_head.ensures) (edge_laid a.words.now a.nodes a.e a.source a.target a.record_words (omega arith) (omega arith) (omega arith) (omega arith))
