-- The list of pairs has the release nodes of the table.
use Rattle.std.proofs.Common.{◌≡◌, ap, ◌∙◌, rules}
use Rattle.std.proofs.lemmas.Option.{slice_get-map, gets}
use Rattle.std.specs.List.{slice_get}
use Rattle.theory.specs.Pairs.{Pair}
use Rattle.weak.proofs.table.WeakDependencies.release_node.Goals as goal

pub returns : goal.returns
returns c =
    let got : c.copied.result ≡ slice_get c.releases.result.now c.args.index.0 = search (rules, gets) in
    got ∙ ap (λ xs. slice_get xs c.args.index.0) c.releases.ensures.nodes ∙ slice_get-map (λ (p : Pair). p.release) c.args.self.now c.args.index.0
