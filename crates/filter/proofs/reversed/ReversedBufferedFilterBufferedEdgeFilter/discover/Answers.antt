-- What the filter inside hands out is turned.
use Rattle.std.proofs.Common.{◌≡◌, map, length, length-take, ap, ◌∙◌, arith}
use Rattle.std.proofs.lemmas.List.{take_at}
use Rattle.graph.specs.Meaning.{meant}
use Rattle.filter.proofs.Turned.{turned_discovers, meant_turned}
use Rattle.filter.proofs.reversed.ReversedBufferedFilterBufferedEdgeFilter.discover.Goals as goal

pub returns-clause-discovers : goal.returns-clause-discovers
returns-clause-discovers g c =
    let k = c.discover-count.ensures in
    let number = g.F.Ix.IndexType.number in
    let size : length c.turn.new.edges ≡ c.discover-count.result = omega (arith, k.within, length-take c.discover-count.result c.discover-count.new.hand) in
    turned_discovers _ _ _ _ _ _ _ _ k.discovers (ap (map (meant number)) (take_at _ _ _ size ∙ c.turn.ensures) ∙ meant_turned number _)
