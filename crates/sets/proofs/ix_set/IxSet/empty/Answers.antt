-- A row of zeros has no member.
use Rattle.std.proofs.Common.{◌≡◌, ℕ, ◌+◌, ◌/◌, false, List, replicate, vec_items, sym, refl, ap, ◌∙◌}
use Rattle.bits.specs.Bits.{has}
use Rattle.bits.proofs.Counts.{count_none}
use Rattle.bits.proofs.Rows.{has_zeros}
use Rattle.sets.proofs.ix_set.IxSet.empty.Goals as goal

zeros : (ws : List ℕ) (m : ℕ) → ws ≡ replicate m 0 → (n : ℕ) → has ws n ≡ false
zeros ws m e n = ap (λ xs. has xs n) e ∙ has_zeros m n

pub invariant_of-result : goal.invariant_of-result
invariant_of-result g c =
    let ws = vec_items c.in_ok-words.words in
    let none : (n : ℕ) → has ws n ≡ false = zeros ws ((c.args.nodes + 63) / 64) (c.in_ok-words.ensures.items_if_clones_equal (λ y e. e)) in
    record {
      few = c.ranges.nodes.fits;
      long = c.in_ok-words.ensures.len;
      within = λ n l. none n;
      counted = sym (count_none (has ws) c.args.nodes none);
    }

pub returns : goal.returns
returns g c = record { nodes = refl; members = zeros (vec_items c.in_ok-words.words) ((c.args.nodes + 63) / 64) (c.in_ok-words.ensures.items_if_clones_equal (λ y e. e)) }
