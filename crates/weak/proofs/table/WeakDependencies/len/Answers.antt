-- The list has a pair an entry, and no two entries have one package edge.
use Rattle.std.proofs.Common.{length, sym, ap, ◌∙◌, subst, arith}
use Rattle.theory.specs.Pairs.{Pair}
use Rattle.weak.specs.Hashed.{pair_at}
use Rattle.weak.specs.Registered.{KnownOnce}
use Rattle.weak.proofs.Apart.{listed_distinct}
use Rattle.weak.proofs.Hashing.{length-pairs}
use Rattle.weak.proofs.table.WeakDependencies.len.Goals as goal

pub returns : goal.returns
returns c =
    let w = c.self.inside in
    let h = c.self.invariant in
    let value = c.len.ensures.value in
    let all = length-pairs w.entries.items w.release_nodes.items in
    let few = h.few in
    record {
      count = value ∙ sym all ∙ ap length c.self.view_is;
      few = omega (arith, value, few);
      known_once =
          subst KnownOnce c.self.view_is
          (listed_distinct (λ (p : Pair). p.package_edge) (pair_at w.entries.items w.release_nodes.items) (length w.entries.items) h.distinct);
    }
