-- The words after the program's name.
use Rattle.std.specs.Prelude.{◌≡◌, ℕ, ◌+◌, ◌*◌, ◌^◌, ◌<◌, ◌&&◌, ◌==◌, nat_eq, nat_lt, if◌then◌else◌, List, [], length, drop, slice_index_or, Option, Some, None, codes}
use Rattle.std.specs.Char.{is_digit}
use Rattle.std.specs.List.{after_first, before_first, list_all, position_or_len, starts_with}
use Rattle.std.specs.Option.{option_map}
use Rattle.std.specs.Str.{bytes_eq}
use Rattle.std.specs.Str.Parse.{digits_value}
use Rattle.packet.specs.declared.arguments.Assignment.{Assignment}

-- the number of a word of one or more digits, where it has at most 128 bits
unfoldable pub number_of : ℕ → List ℕ → Option ℕ
number_of radix word =
    if nat_lt 0 (length word) && list_all (λ byte. is_digit byte radix) word && nat_lt (digits_value radix word) (2 ^ 128)
    then Some (digits_value radix word) else None

-- of decimal digits, or of hexadecimal ones behind `0x`
abbrev pub value_of : List ℕ → Option ℕ
value_of word = if starts_with nat_eq word (codes "0x") then number_of 16 (drop 2 word) else number_of 10 word

-- a field's name and its value
pub record Named : Type 0 where
  pub name : List ℕ
  pub value : ℕ

-- the assignment of the words `--set` and `FIELD=VALUE`, cut at the first equals sign
abbrev pub assignment_of : List ℕ → List ℕ → Option Named
assignment_of flag word =
    if bytes_eq flag (codes "--set") && nat_lt (position_or_len (λ byte. byte == 61) word) (length word)
    then option_map (λ value. record { name = before_first (λ byte. byte == 61) word; value = value }) (value_of (after_first (λ byte. byte == 61) word))
    else None

-- the same of an assignment
abbrev pub named : Assignment → Named
named assignment = record { name = assignment.name.now; value = assignment.value }

-- these are the assignments of the words, each behind a word `--set`
pub record AreAssignments (words : List (List ℕ)) (list : List Named) : Type 0 where
  pub count : length words ≡ 2 * length list
  pub each : (k : ℕ) → k < length list
      → assignment_of (slice_index_or words (2 * k) []) (slice_index_or words (2 * k + 1) []) ≡ Some (slice_index_or list k (record { name = []; value = 0 }))
