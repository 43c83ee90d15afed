-- The first place whose byte passes a test: `position` finds it, and words stand between two such places.
use Rattle.std.proofs.Common.{◌≡◌, ℕ, ◌+◌, ◌-◌, ◌<◌, min, Bool, not, List, length, take, drop, position, Option, arith, length-drop}
use Rattle.std.specs.Option.{unwrap_or}
use Rattle.std.proofs.lemmas.Bool.Decides.{nat_tests}
use Rattle.std.proofs.lemmas.Grind.{common_steps}
use Rattle.std.proofs.lemmas.List.{get_or-drop}
use Rattle.std.proofs.lemmas.List.Sums.{prefix_len-le-length, prefix_len-drop_all, fails_before_first, passes_at_first}
use Rattle.words.specs.Places.{blank, first_at, First, IsWord, NoWord, word_start, word_end}

-- what `position` finds behind the first bytes, if anything, is the first place
pub from_position : (test : ℕ → Bool) (bs : List ℕ) (from m at : ℕ) (r : Option ℕ) → m ≡ min from (length bs) → r ≡ position test (take (length bs - m) (drop m bs)) → at ≡ unwrap_or r (length (take (length bs - m) (drop m bs))) → m + at ≡ first_at test bs from
from_position test bs from m at r e f g = grind (arith, common_steps, prefix_len-le-length, prefix_len-drop_all)

-- what that says of the bytes
pub first_at_lem : (test : ℕ → Bool) (bs : List ℕ) (from : ℕ) → First test bs from (first_at test bs from)
first_at_lem test bs from = record {
  onward = grind (arith, common_steps);
  within = grind (arith, common_steps, prefix_len-le-length);
  before = λ k h g. let e = fails_before_first test (drop from bs) (k - from) 0 (omega (arith, length-drop from bs, prefix_len-le-length (λ b. not (test b)) (drop from bs))) in grind (arith, common_steps, e, get_or-drop);
  here = λ h. let e = passes_at_first test (drop from bs) 0 (omega (arith, length-drop from bs)) in grind (arith, common_steps, e, get_or-drop);
}

pub first_from : (test : ℕ → Bool) (bs : List ℕ) (from at : ℕ) → at ≡ first_at test bs from → First test bs from at
first_from test bs from at e = rw e (first_at_lem test bs from)

-- a word stands between the first place that has no blank and the next that has one
pub is_word : (text : List ℕ) (from start end : ℕ) → start ≡ word_start text from → start < length text → end ≡ word_end text start → IsWord text from (record { start = start; end = end })
is_word text from start end s h e =
    let a = first_at_lem (λ b. not (blank b)) text from in
    let b = first_at_lem blank text start in
    record {
      onward = grind (arith, a.onward);
      some = grind (arith, nat_tests, a.here, b.before);
      within = grind (arith, b.within);
      before = λ k g f. grind (arith, nat_tests, a.before k);
      inside = λ k g f. grind (arith, b.before k);
      ends = λ g. grind (arith, b.here);
    }

pub no_word : (text : List ℕ) (from : ℕ) → word_start text from ≡ length text → NoWord text from
no_word text from e =
    let a = first_at_lem (λ b. not (blank b)) text from in
    λ k g f. grind (arith, a.before k)
