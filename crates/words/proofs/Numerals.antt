-- What `parse` reads is the number that a word writes, and a word that writes one is text.
use Rattle.std.proofs.Common.{◌≡◌, ℕ, ◌-◌, ◌^◌, ◌<◌, true, List, get_or, length, None, Ok, Err, IsUtf8, IsAscii, Result, ⊎_elim, arith}
use Rattle.std.specs.Result.{result_ok}
use Rattle.std.specs.Str.Parse.{without_leading_plus, digits_value, ParsesUnsigned}
use Rattle.std.specs.Str.{all_ascii_digits}
use Rattle.std.proofs.lemmas.Str.{IsUtf8-from_ascii}
use Rattle.std.proofs.lemmas.Str.Parse.{IsNumeralModel, numerals_by_value, tells_all_ascii_digits, without_leading_plus_plus, without_leading_plus_none, digit_at}
use Rattle.std.proofs.lemmas.Bool.{cases_eq}
use Rattle.std.proofs.lemmas.Bool.Decides.{nat_tests}
use Rattle.std.proofs.lemmas.Grind.{common_steps}
use Rattle.words.specs.Numbers.{number_of}

own : IsNumeralModel (λ ds. all_ascii_digits ds ≡ true) (digits_value 10)
own = numerals_by_value _ tells_all_ascii_digits

pub parsed : {E : Type 0} (word : List ℕ) (r : Result ℕ E) → ParsesUnsigned 32 10 word r → result_ok r ≡ number_of word
parsed word (Ok x) h = let digits = own.from _ h.0.0.1 in grind (arith, nat_tests, digits)
parsed word (Err e) h =
    let no = λ (p : 0 < length (without_leading_plus word)) (q : all_ascii_digits (without_leading_plus word) ≡ true) (r : digits_value 10 (without_leading_plus word) < 2 ^ 32). h ((p, own.to _ q), r) in
    grind (arith, nat_tests, no)

digits_ascii : (ds : List ℕ) → all_ascii_digits ds ≡ true → IsAscii ds
digits_ascii ds e i = let d = digit_at ds i (own.to ds e) in grind (arith, common_steps, d)

number_ascii : (word : List ℕ) → all_ascii_digits (without_leading_plus word) ≡ true → IsAscii word
number_ascii word e i = let d = digits_ascii (without_leading_plus word) e in
    ⊎_elim
    (λ (plus : get_or word 0 0 ≡ 43). grind (arith, common_steps, without_leading_plus_plus word plus, d (i - 1)))
    (λ (plain : get_or word 0 0 ≡ 43 → ⊥). grind (arith, common_steps, without_leading_plus_none word plain, d i))
    (cases_eq (get_or word 0 0) 43)

pub no_text : (word : List ℕ) → (IsUtf8 word → ⊥) → None ≡ number_of word
no_text word h =
    let no = λ (q : all_ascii_digits (without_leading_plus word) ≡ true). h (IsUtf8-from_ascii word (number_ascii word q)) in
    grind (arith, nat_tests, no)
