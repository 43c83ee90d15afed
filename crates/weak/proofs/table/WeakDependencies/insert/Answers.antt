-- A new pair comes last, and the tables keep their chains.
use Rattle.std.proofs.Common.{[], ◌∷◌, ◌++◌, length, Ok, sym, ap, ◌∙◌, arith}
use Rattle.theory.specs.Pairs.{Pair, place}
use Rattle.theory.proofs.Placing.{none_placed}
use Rattle.weak.specs.Hashed.{pair_at}
use Rattle.weak.specs.Registered.{weak_index}
use Rattle.weak.proofs.Hashing.{length-pairs, hashed_more, pairs_more}
use Rattle.weak.proofs.Registering.{not_placed, registers_none, registers_last}
use Rattle.weak.proofs.table.WeakDependencies.insert.Goals as goal

pub returns-then-from-ge-WEAK_LIMIT : goal.returns-then-from-ge-WEAK_LIMIT
returns-then-from-ge-WEAK_LIMIT c =
    let w = c.self.inside in
    let n = length-pairs w.entries.items w.release_nodes.items in
    let m = ap length c.self.view_is in
    let r = registers_none c.args.self.now (record { package_edge = c.args.package_edge; release = c.args.release }) (not_placed _ c.in_default.ensures) (omega arith) in
    record { answer = sym r.0; after = sym r.1 }

pub invariant_of-self : goal.invariant_of-self
invariant_of-self c =
    let w = c.self.inside in
    let p = c.args.package_edge in
    let unknown = ap (place p) c.self.view_is ∙ not_placed _ c.in_default.ensures in
    let fresh = none_placed (pair_at w.entries.items w.release_nodes.items) (length w.entries.items) p unknown in
    let h = hashed_more w.entries.items w.release_nodes.items w.heads c.self.invariant p c.args.release (omega arith) fresh in
    rw (c.push.ensures.items, c.push-2.ensures.items, c.replace-next.ensures.after, c.replace-next.ensures.value, c.bucket.ensures, c.len-i.ensures.value) h

pub returns : goal.returns
returns c =
    let w = c.self.inside in
    let now = c.self.view_is in
    let pair : Pair = record { package_edge = c.args.package_edge; release = c.args.release } in
    let n = length-pairs w.entries.items w.release_nodes.items in
    let m = ap length now in
    let r = registers_last c.args.self.now pair (not_placed _ c.in_default.ensures) (omega arith) in
    let more = pairs_more w.entries.items w.release_nodes.items w.heads c.self.invariant c.args.package_edge c.args.release in
    record {
      answer = ap (λ k. Ok (weak_index k)) (omega arith) ∙ sym r.0;
      after = rw (c.push.ensures.items, c.push-2.ensures.items, c.replace-next.ensures.value, c.bucket.ensures) (more ∙ ap (λ ps. ps ++ pair ∷ []) now ∙ sym r.1);
    }
