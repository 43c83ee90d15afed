-- A word stored, cut to the nodes: the other words' members stay, and the count moves by the digits set before and after.
use Rattle.std.proofs.Common.{◌≡◌, get_or, set, vec_items, refl, arith}
use lib.Bits.{bit_and}
use Rattle.std.proofs.lemmas.List.{get_or_read}
use Rattle.bits.specs.Bits.{has}
use Rattle.bits.proofs.Counts.{count_le}
use Rattle.bits.proofs.Rows.{Cut, stored_has, stored_below, stored_count, word_room}
use Rattle.sets.proofs.ix_set.IxSet.put_word.Given.{Over}
use Rattle.sets.proofs.ix_set.IxSet.put_word.Goals.{After-low_bits}
use Rattle.sets.proofs.ix_set.IxSet.put_word.Goals as goal

-- what is stored, and the word that it replaces
cut : (g : Over) (c : After-low_bits g) → Cut (vec_items c.args.self.now.words) c.args.i c.args.w c.low_bits.result c.args.self.now.nodes
cut g c = record { inside = let ok = c.args.self.now.words.ok.0 in omega (arith, c.len.ensures); fits = c.low_bits.type_inv; low = c.low_bits.ensures }

was : (g : Over) (c : After-low_bits g) → c.index-old.result.now ≡ get_or (vec_items c.args.self.now.words) c.args.i 0
was g c = get_or_read (vec_items c.args.self.now.words) c.args.i c.index-old.result.now (cut g c).inside c.index-old.ensures 0

pub overflow_sub-self-2 : goal.overflow_sub-self-2
overflow_sub-self-2 g c =
    let s = c.args.self.now in
    word_room (vec_items s.words) c.args.i s.nodes c.index-old.result.now s.count (was g (goal.at.overflow_sub-self-2 g c).After-low_bits) c.type_inv.old.fits s.within s.counted

pub overflow_add-self : goal.overflow_add-self
overflow_add-self g c =
    let s = c.args.self.now in
    let low = (goal.at.overflow_add-self g c).After-low_bits in
    let counted = stored_count (cut g low) c.index-old.result.now s.count (was g low) c.type_inv.old.fits s.within s.counted in
    let most = count_le (has (set (vec_items s.words) c.args.i (bit_and c.args.w c.low_bits.result))) s.nodes in
    let few = s.few in
    omega arith

pub invariant_of-self : goal.invariant_of-self
invariant_of-self g c =
    let s = c.args.self.now in
    let low = (goal.at.invariant_of-self g c).After-low_bits in
    record {
      few = s.few;
      long = s.long;
      within = stored_below (cut g low) s.within;
      counted = stored_count (cut g low) c.index-old.result.now s.count (was g low) c.type_inv.old.fits s.within s.counted;
    }

pub returns : goal.returns
returns g c = record { nodes = refl; members = stored_has (cut g (goal.at.returns g c).After-low_bits) }
