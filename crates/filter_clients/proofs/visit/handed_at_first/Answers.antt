-- There is room for the next edge, since the list has no more edges than the graph.
use Rattle.std.proofs.Common.{◌≡◌, ◌<◌, ◌≤◌, [], false, leb, length, Some, filter, sym, ap, ◌∙◌, subst, arith, rules}
use Rattle.std.proofs.lemmas.Bool.{cond-true, le-leb}
use Rattle.theory.specs.Graphs.{Steps}
use Rattle.theory.specs.Rules.{hands}
use Rattle.theory.specs.Walk.{mark}
use Rattle.graph.specs.Meaning.{meant}
use Rattle.filter.specs.Filters.{Untold}
use Rattle.filter_clients.proofs.Visiting.{few_out, next_fits, kept_few, ended, one_told}
use Rattle.filter_clients.proofs.visit.handed_at_first.Goals as goal

pub filter-requires-clause-room : goal.filter-requires-clause-room
filter-requires-clause-room g c =
    let graph = c.args.graph.now in
    let it = c.loop-edge.edge-iterator in
    let inv = c.loop-edge.invariant in
    let list = ap (λ s. g.G.Graph.rest graph s.cursor) c.into_iter-edge-iterator.ensures.into_iter_gives ∙ c.outgoing-edge-items.ensures.list in
    let few = few_out (g.met.G.Graph.sound graph) (g.G.Ix.IndexType.number c.args.node) _ list in
    let bound = c.edge_bound.ensures in
    let enough : length (g.G.Graph.rest graph c.into_iter-edge-iterator.result.cursor) ≤ length c.loop-edge.hold = omega (arith, c.if-hold-edge_bound.false, c.loop-edge.auto.hold, c.discover.auto.hold) in
    let e = meant g.G.Ix.IndexType.number c.in-Some.edge in
    next_fits (g.G.Graph.rest graph it.cursor) (g.G.Graph.rest graph c.next.new.self.cursor) e _ _ _ (subst (λ x. Steps (g.G.Graph.rest x it.cursor) (Some e) (g.G.Graph.rest x c.next.new.self.cursor)) inv.graph c.in-Some.ensures.steps.1) inv.used enough

pub overflow_add-count : goal.overflow_add-count
overflow_add-count g c =
    let f = g.F.BufferedEdgeFilter in
    let s = c.discover.new.self in
    let graph = c.args.graph.now in
    let inv = c.loop-edge.invariant in
    let sound = g.met.G.Graph.sound graph in
    let list = ap (λ s. g.G.Graph.rest graph s.cursor) c.into_iter-edge-iterator.ensures.into_iter_gives ∙ c.outgoing-edge-items.ensures.list in
    let few = few_out sound (g.G.Ix.IndexType.number c.args.node) _ list in
    let kept = kept_few (hands (f.rule s) (f.told s)) (g.G.Graph.rest graph c.into_iter-edge-iterator.result.cursor) in
    let low : c.loop-edge.count < 65536 = omega (arith, inv.count, sound.few_edges) in
    search rules

pub returns : goal.returns
returns g c =
    let f = g.F.BufferedEdgeFilter in
    let n = g.G.Ix.IndexType.number c.args.node in
    let graph = c.args.graph.now in
    let B = c.begin.ensures in
    let D = c.discover.ensures in
    let s = c.discover.new.self in
    let it = c.loop-edge.edge-iterator in
    let inv = c.loop-edge.invariant in
    let out = hands (f.rule s) (f.told s) in
    let list = ap (λ s. g.G.Graph.rest graph s.cursor) c.into_iter-edge-iterator.ensures.into_iter_gives ∙ c.outgoing-edge-items.ensures.list in
    let none : g.G.Graph.rest graph it.cursor ≡ [] = ap (λ x. g.G.Graph.rest x it.cursor) (sym inv.graph) ∙ ended _ _ c.in-None.ensures.steps.1 in
    let untold = subst (λ r. Untold r (f.told c.begin.new.self)) (sym B.same) B.untold in
    let one = ap (λ r. hands r (f.told s)) D.same ∙ one_told _ n _ _ _ _ _ untold D.discovers ∙ ap (λ r. hands r (mark (λ _. false) n)) B.same in
    let left = ap (λ xs. length (filter out xs)) none in
    let count : c.loop-edge.count ≡ length (filter out (g.G.Graph.rest graph c.into_iter-edge-iterator.result.cursor)) = omega (arith, left, inv.count) in
    let bound = c.edge_bound.ensures in
    record {
      same = inv.rule ∙ D.same ∙ B.same;
      answer =
          ap Some (count ∙ (λ j. length (filter (one j) (list j))))
          ∙ sym (cond-true (leb (g.G.Graph.edges graph) (length c.args.hold.now)) _ _ (le-leb _ _ (omega (arith, bound, c.if-hold-edge_bound.false))));
    }
