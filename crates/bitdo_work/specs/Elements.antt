-- A memory in the arguments' notation.
use Rattle.std.specs.Prelude.{ℕ, ◌/◌, ◌&&◌, ◌==◌, if◌then◌else◌, List, [], length, Option, Some, None, is_some, codes}
use Rattle.std.specs.Char.{is_ascii_hexdigit}
use Rattle.std.specs.List.{list_all, filter_map, slice_split}
use Rattle.std.specs.Str.{bytes_eq}
use Rattle.std.specs.Str.Parse.{digits_value}

-- what is read of each, where each can be read
unfoldable pub read_each : {X Y : Type 0} → (X → Option Y) → List X → Option (List Y)
read_each read xs = if list_all (λ x. is_some (read x)) xs then Some (filter_map read xs) else None

-- a word of so many hexadecimal digits, in either case
unfoldable pub hexadecimal_of : ℕ → List ℕ → Option ℕ
hexadecimal_of count word = if length word == count && list_all is_ascii_hexdigit word then Some (digits_value 16 word) else None

-- an element of `bits` bits, as many digits as its width has
abbrev pub element_of : ℕ → List ℕ → Option ℕ
element_of bits word = hexadecimal_of (bits / 4) word

-- the elements of a memory, joined by commas, or `-` for none
unfoldable pub elements_of : ℕ → List ℕ → Option (List ℕ)
elements_of bits text =
    if bytes_eq text (codes "-") then Some [] else read_each (element_of bits) (slice_split (λ byte. byte == 44) text)
