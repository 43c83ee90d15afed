-- One more word is made, cut to the nodes and counted; past the last word all members are counted.
use Rattle.std.proofs.Common.{◌≡◌, ℕ, ◌+◌, ◌*◌, ◌/◌, ◌%◌, ◌^◌, ◌<◌, ◌&&◌, ltb, length, get_or, set, take, drop, List, ◌++◌, sym, ap, ◌∙◌, subst, inl, inr, arith}
use lib.Bits.{bit_and}
use Rattle.std.proofs.lemmas.List.{get_or-set_other}
use Rattle.std.proofs.Math.Seq.{take-append_seam}
use Rattle.std.proofs.lemmas.Bool.{cases_eq}
use Rattle.bits.specs.Bits.{bit, has, how_many}
use Rattle.bits.proofs.Counts.{count_zero, count_past, count_most}
use Rattle.bits.proofs.Rows.{Cut, stored_here, stored_there, stored_below, stored_more, word_has}
use Rattle.sets.specs.Sets.{member}
use Rattle.sets.proofs.ix_set.IxSet.change_words.Given.{Over}
use Rattle.sets.proofs.ix_set.IxSet.change_words.Goals as goal

pub loop-i-init : goal.loop-i-init
loop-i-init g c =
    let s = c.args.self.now in
    let value = c.deref_mut-word-items.ensures.value in
    record {
      made = λ p h n l. absurd (omega arith);
      rest = λ n l. ap (λ ws. has ws n) value;
      fits = λ k l. (c.type_inv.word-items k).fits;
      within = λ k l. ap (λ ws. has ws k) value ∙ s.within k l;
      counted = sym (count_zero (has c.deref_mut-word-items.result.now));
    }

-- the word that is stored
cut : (g : Over) (c : goal.After-low_bits g) → Cut c.loop-i.word-items c.loop-i.i c.f.result c.low_bits.result c.args.self.now.nodes
cut g c = record { inside = omega arith; fits = c.low_bits.type_inv; low = c.low_bits.ensures }

pub overflow_add-count : goal.overflow_add-count
overflow_add-count g c =
    let s = c.args.self.now in
    let ws = c.loop-i.word-items in
    let i = c.loop-i.i in
    let counted = stored_more (cut g c) c.loop-i.count c.loop-i.invariant.counted in
    let most = count_most (has (set ws i (bit_and c.f.result c.low_bits.result))) s.nodes ((i + 1) * 64) (stored_below (cut g c) c.loop-i.invariant.within) in
    let few = s.few in
    omega arith

pub loop-i-preserved : goal.loop-i-preserved
loop-i-preserved g c =
    let s = c.args.self.now in
    let ws = c.loop-i.word-items in
    let i = c.loop-i.i in
    let w = get_or ws i 0 in
    let r = c.f.result in
    let m = c.low_bits.result in
    let keeps = c.loop-i.invariant in
    let word : (k : ℕ) → k < 64 → bit w k ≡ member s (i * 64 + k) = λ k l. word_has ws i k l ∙ keeps.rest (i * 64 + k) (omega arith) in
    record {
      made = λ p h n b. elim (cases_eq (n / 64) i) [
        | inl e ↦
            let at : i * 64 + n % 64 ≡ n = omega arith in
            stored_here (cut g c) n e
            ∙ ap (λ b. b && ltb n s.nodes) (h i w r (omega arith) (keeps.fits i (omega arith)) word c.f.ensures (n % 64) (omega arith) ∙ ap p at)
        | inr d ↦ stored_there (cut g c) n d ∙ keeps.made p h n (omega (arith, d))
      ];
      rest = λ n b. stored_there (cut g c) n (λ e. omega arith) ∙ keeps.rest n (omega arith);
      fits = λ k b. subst (λ x. x < 2 ^ 64) (sym (get_or-set_other ws i k (bit_and r m) 0 (λ e. omega arith))) (keeps.fits k (omega arith));
      within = stored_below (cut g c) keeps.within;
      counted = stored_more (cut g c) c.loop-i.count keeps.counted;
    }

-- the words that are put back
back : (ws old : List ℕ) (n : ℕ) → length ws ≡ n → take n (ws ++ drop (length ws) old) ≡ ws
back ws old n e = subst (λ k. take k (ws ++ drop (length ws) old) ≡ ws) e (take-append_seam ws (drop (length ws) old))

pub invariant_of-self : goal.invariant_of-self
invariant_of-self g c =
    let s = c.args.self.now in
    let ws = c.loop-i.word-items in
    let is = back ws s.words.items s.words.len (omega (arith, c.deref_mut-word-items.ensures.len)) in
    record {
      few = s.few;
      long = s.long;
      within = λ n l. ap (λ xs. has xs n) is ∙ c.loop-i.invariant.within n l;
      counted = c.loop-i.invariant.counted ∙ count_past (has ws) s.nodes (c.loop-i.i * 64) c.loop-i.invariant.within (omega (arith, s.long, c.deref_mut-word-items.ensures.len))
          ∙ sym (ap (λ xs. how_many (has xs) s.nodes) is);
    }
