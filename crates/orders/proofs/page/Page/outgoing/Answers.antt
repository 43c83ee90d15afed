-- An outgoing list is short: its edges have different numbers below the limit.
use Rattle.std.proofs.Common.{length, ap, ◌∙◌, arith}
use Rattle.theory.proofs.Kept.{at_most}
use Rattle.orders.proofs.page.Page.outgoing.Goals as goal

pub list-requires : goal.list-requires
list-requires g c =
    let s = g.met.G.Graph.sound c.args.graph.now in
    let few = at_most _ _ (s.once c.args.node) (s.number c.args.node) in
    let small = s.few_edges in
    let q = ap length (c.outgoing-start.ensures ∙ ap (g.G.Graph.outs c.args.graph.now) c.new.ensures) in
    omega arith
