-- The list of pairs has the release nodes of the table.
use Rattle.std.proofs.Common.{map, ap, ◌∙◌}
use Rattle.theory.specs.Pairs.{Pair}
use Rattle.weak.proofs.Releasing.{releases_of}
use Rattle.weak.proofs.table.WeakDependencies.releases.Goals as goal

pub returns-clause-nodes : goal.returns-clause-nodes
returns-clause-nodes c =
    let w = c.self.inside in
    c.as_slice.ensures.value ∙ releases_of w.entries.items w.release_nodes.items c.self.invariant.beside ∙ ap (map (λ (p : Pair). p.release)) c.self.view_is
