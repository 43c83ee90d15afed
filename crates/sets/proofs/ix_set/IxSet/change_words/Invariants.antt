-- The words before this one are made and counted, and the others are still as they were.
use Rattle.std.proofs.Common.{◌≡◌, ℕ, ◌*◌, ◌/◌, ◌^◌, ◌<◌, ◌≤◌, Bool, ◌&&◌, ltb, get_or}
use Rattle.bits.specs.Bits.{has, how_many}
use Rattle.bits.proofs.Rows.{Below}
use Rattle.sets.specs.Sets.{member}
use Rattle.sets.specs.Stepping.{TurnsWords}
use Rattle.sets.proofs.ix_set.IxSet.change_words.Given as goal

abbrev pub invariant-loop-i : goal.invariant-loop-i
invariant-loop-i g l = record {
  made : (p : ℕ → Bool) → TurnsWords (goal.F-post g l.f) (member l.fn.self) p → (n : ℕ) → n / 64 < l.i → has l.word-items n ≡ (p n && ltb n l.fn.self.nodes);
  rest : (n : ℕ) → l.i ≤ n / 64 → has l.word-items n ≡ member l.fn.self n;
  fits : (k : ℕ) → l.i ≤ k → get_or l.word-items k 0 < 2 ^ 64;
  within : Below l.word-items l.fn.self.nodes;
  counted : l.count ≡ how_many (has l.word-items) (l.i * 64);
}
