-- Words of decimal digits.
use Rattle.std.specs.Prelude.{ℕ, ◌^◌, ◌&&◌, nat_lt, if◌then◌else◌, List, length, Option, Some, None}
use Rattle.std.specs.Char.{is_ascii_digit}
use Rattle.std.specs.List.{list_all}
use Rattle.std.specs.Str.Parse.{digits_value, without_leading_plus}

-- It is the number of one or more decimal digits, where it has at most so many bits.
abbrev pub numeral_of : ℕ → List ℕ → Option ℕ
numeral_of bits digits =
    if nat_lt 0 (length digits) && list_all is_ascii_digit digits && nat_lt (digits_value 10 digits) (2 ^ bits)
    then Some (digits_value 10 digits) else None

-- A plus may stand before the digits.
unfoldable pub number_of : ℕ → List ℕ → Option ℕ
number_of bits word = numeral_of bits (without_leading_plus word)
