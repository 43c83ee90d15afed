-- The number that a word writes.
use Rattle.std.specs.Prelude.{ℕ, ◌^◌, Bool, cond, ◌&&◌, List, length, Some, None, Option, nat_lt}
use Rattle.std.specs.Str.Parse.{without_leading_plus, digits_value}
use Rattle.std.specs.Str.{all_ascii_digits}

-- one decimal digit or more after a `+` or none, and the number that they write is below 2 ^ 32
abbrev pub is_number : List ℕ → Bool
is_number word = nat_lt 0 (length (without_leading_plus word)) && (all_ascii_digits (without_leading_plus word) && nat_lt (digits_value 10 (without_leading_plus word)) (2 ^ 32))

-- that number, if the word writes one
abbrev pub number_of : List ℕ → Option ℕ
number_of word = cond (is_number word) (Some (digits_value 10 (without_leading_plus word))) None
