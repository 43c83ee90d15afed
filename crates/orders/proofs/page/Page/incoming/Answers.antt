-- An incoming list is short: its edges have different numbers below the limit.
use Rattle.std.proofs.Common.{length, ap, ◌∙◌, arith}
use Rattle.theory.proofs.Kept.{at_most}
use Rattle.orders.proofs.page.Page.incoming.Goals as goal

pub list-requires : goal.list-requires
list-requires g c =
    let s = g.met.G.Graph.sound c.args.graph.now in
    let t = g.met.G.BothWays.tied c.args.graph.now in
    let few = at_most _ _ (t.once c.args.node) (λ e i. s.number _ e (t.out c.args.node e i)) in
    let small = s.few_edges in
    let q = ap length (c.incoming-start.ensures ∙ ap (g.G.BothWays.ins c.args.graph.now) c.new.ensures) in
    omega arith
