-- One node more: its digit is set, the others stay, and the count grows by one.
use Rattle.std.proofs.Common.{◌≡◌, ◌+◌, ◌*◌, ◌/◌, ◌%◌, ◌^◌, ◌<◌, true, ◌&&◌, ◌||◌, eqb, ltb, length, vec_items, sym, refl, ap, ◌∙◌, arith}
use mathlib.Core.Bool.{and-true}
use Rattle.std.proofs.lemmas.Nat.{one_shl}
use Rattle.std.proofs.lemmas.List.{get_or_read}
use Rattle.std.proofs.lemmas.Bool.{lt-ltb}
use Rattle.bits.specs.Bits.{has}
use Rattle.bits.proofs.Counts.{count_room}
use Rattle.bits.proofs.Rows.{Put, put_has, put_below, put_count}
use Rattle.sets.proofs.ix_set.IxSet.insert.Given.{Over}
use Rattle.sets.proofs.ix_set.IxSet.insert.Goals.{After-index_mut}
use Rattle.sets.proofs.ix_set.IxSet.insert.Goals as goal

-- the digit of the node is put in
put : (g : Over) (c : After-index_mut g) → let n = c.index-n.result in Put (vec_items c.args.self.now.words) n c.index_mut.result.now (1 * 2 ^ (n % 64) % 2 ^ 64)
put g c =
    let s = c.args.self.now in
    let n = c.index-n.result in
    let word = c.index_mut.result.now in
    let l : n / 64 < length (vec_items s.words) = omega (arith, s.words.ok.0, s.long) in
    record { inside = l; was = get_or_read (vec_items s.words) (n / 64) word l c.index_mut.ensures.value 0; lone = one_shl (n % 64) 64 (omega arith) }

pub overflow_add-self : goal.overflow_add-self
overflow_add-self g c =
    let s = c.args.self.now in
    let few = s.few in
    omega (arith, s.counted, count_room (has (vec_items s.words)) c.index-n.result s.nodes (omega arith) (cc))

pub invariant_of-self : goal.invariant_of-self
invariant_of-self g c =
    let s = c.args.self.now in
    let in_place = put g (goal.at.invariant_of-self g c).After-index_mut in
    record {
      few = s.few;
      long = s.long;
      within = put_below in_place s.nodes (omega arith) s.within;
      counted = ap (λ k. k + 1) s.counted ∙ sym (put_count in_place s.nodes (omega arith) (cc));
    }

pub returns-clause-set : goal.returns-clause-set
returns-clause-set g c =
    let s = c.args.self.now in
    let m = g.S.Ix.IndexType.number c.args.ix in
    let node : ltb m s.nodes ≡ true = lt-ltb m s.nodes (omega (arith, c.index-n.ensures)) in
    record {
      nodes = refl;
      members = λ k. put_has (put g (goal.at.returns-clause-set g c).After-index_mut) k ∙ ap (λ t. has (vec_items s.words) k || t) (ap (eqb k) c.index-n.ensures ∙ sym (ap (λ b. eqb k m && b) node ∙ and-true (eqb k m)));
    }
