-- A word that has the bytes of a name is that name.
use Rattle.std.proofs.Common.{◌≡◌, ℕ, List, length, sym, ◌∙◌}
use Rattle.std.proofs.lemmas.Slice.Eq.{HasBytesAt, text_from_reads}

pub name_from_reads : (word bytes name : List ℕ) → bytes ≡ word → length bytes ≡ length name → HasBytesAt bytes 0 name → word ≡ name
name_from_reads word bytes name e long reads = sym e ∙ text_from_reads bytes name long reads
