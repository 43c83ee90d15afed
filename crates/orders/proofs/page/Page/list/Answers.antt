-- The head of the line and then its edges make the line.
use Rattle.std.proofs.Common.{◌≡◌, ◌∷◌, ◌++◌, length, rules, ap, sym, ◌∙◌}
use Rattle.std.specs.Option.{option_map}
use Rattle.std.proofs.lemmas.Iterator.Consumers.{count_from_yields_List, YieldsList-from_shown}
use Rattle.theory.proofs.Cursors.{step_some}
use Rattle.theory.specs.Graphs.{Steps}
use Rattle.graph.specs.Meaning.{meant}
use Rattle.orders.proofs.Adding.{step_none, writes_list}
use Rattle.orders.specs.Wording.{head_text}
use Rattle.orders.proofs.page.Page.list.Goals as goal

pub returns : goal.returns
returns g c =
    let rest = g.G.Graph.rest in
    let number = g.G.Ix.IndexType.number in
    let left = rest c.args.graph.now c.args.start in
    let count : c.count-count.result ≡ length left =
    count_from_yields_List _ _ c.count-count.ensures.ran
    (YieldsList-from_shown
    (λ s r t. (t.graph.now ≡ s.graph.now) × Steps (rest s.graph.now s.cursor) (option_map (meant number) r) (rest s.graph.now t.cursor))
    (meant number) (λ s. rest s.graph.now s.cursor)
    (λ s t h. ap length (step_none _ _ h.1))
    (λ s x t h. step_some _ _ _ h.1 ∙ ap (λ graph. meant number x ∷ rest graph t.cursor) (sym h.0)) _) in
    let before = c.args.self.now in
    let name = c.args.name.now in
    let head : c.write.new.self ≡ before ++ head_text name c.args.node (length left) =
    c.in_ok-write.ensures ∙ ap (λ k. before ++ head_text name c.args.node k) count in
    let end = c.in-None.ensures.steps.1 in
    let edges = c.into_iter-edge-iterator in
    let begun : rest edges.result.graph.now edges.result.cursor ≡ left = search (rules, edges.ensures.into_iter_gives) in
    writes_list before _ _ _ _ _ _ head c.loop-edge.invariant (step_none _ _ end) begun
