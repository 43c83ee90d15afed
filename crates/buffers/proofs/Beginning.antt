-- A filter whose registered indexes are all buffered, with no edge, was told nothing and holds nothing. Assumes nothing.
use Rattle.std.proofs.Common.{◌≡◌, ℕ, false, List, length, sym, ap, ◌∙◌, subst, true≢false, arith}
use Rattle.std.proofs.lemmas.Bool.{false_from_ne_true}
use Rattle.buffers.specs.Buffers.{Entry, is_out, told_by, Chained, Okay, Blank}
use Rattle.buffers.specs.declared.states.SingleBufferState.{SingleBufferState}
use Rattle.buffers.proofs.Arriving.{told_some}

module _ (nodes : List ℕ) (ss : List SingleBufferState) (h : Blank (length nodes) ss) where
  pub blank_told : (w : ℕ) → told_by nodes ss w ≡ false
  blank_told w = false_from_ne_true _ (λ t. let p = told_some nodes ss w t in true≢false (sym p.3 ∙ ap is_out (h p.0 p.1)))

  pub blank_okay : (hold : List Entry) → length ss ≡ 1024 → Okay nodes ss 0 hold
  blank_okay hold long = record {
    long = long;
    fits = omega arith;
    agree = λ i j a b e. ap is_out (h i a ∙ sym (h j b));
    chained = λ i l. subst (Chained i 0 hold) (sym (h i l)) (λ k a b. absurd (omega arith));
  }
