-- The words after the program's name.
use Rattle.std.specs.Prelude.{ℕ, Bool, true, false, ◌+◌, ◌*◌, ◌^◌, ◌&&◌, ◌==◌, nat_lt, slice_index_or, slice_set, drop, fold, replicate, if◌then◌else◌, List, [], length, Option, Some, None, option_and_then, codes}
use Rattle.std.specs.Char.{digit_value, is_ascii_digit}
use Rattle.std.specs.List.{list_all}
use Rattle.std.specs.Option.{option_map}
use Rattle.std.specs.Str.{bytes_eq}
use Rattle.numerals.specs.Numerals.{number_of}
use Rattle.bitvec.specs.Arrays.{lsb0_bits}
use Rattle.bitmatrix.specs.declared.graph.Graph.{Graph}
use Rattle.bitmatrix.specs.declared.arguments.Request.{Request}
use Rattle.bitmatrix.specs.declared.arguments.Request.TheVariants.{Rows, Pairs, Chain}

infixl 10 ◌>>=◌
abbrev pub ◌>>=◌ : {A B : Type 0} → Option A → (A → Option B) → Option B
o >>= f = option_and_then f o

-- the value of a hexadecimal digit, in either case
abbrev pub digit_of : ℕ → Option ℕ
digit_of byte = if nat_lt (digit_value byte) 16 then Some (digit_value byte) else None

-- a word of two digits: a place, and one that it leads to
abbrev pub pair_of : List ℕ → Option (ℕ × ℕ)
pair_of word =
    if length word == 2 then (digit_of (slice_index_or word 0 0) >>= λ from. digit_of (slice_index_or word 1 0) >>= λ to. Some (from, to))
    else None

-- the bits of sixteen rows of sixteen, with that of a pair
abbrev pub paired : List Bool → ℕ × ℕ → List Bool
paired bits pair = slice_set bits (pair.0 * 16 + pair.1) true

-- with that of one more word, where it is a pair
abbrev pub with_pair : Option (List Bool) → List ℕ → Option (List Bool)
with_pair bits word = bits >>= λ before. pair_of word >>= λ pair. Some (paired before pair)

-- with those of all words, and no other
abbrev pub bits_in : List (List ℕ) → Option (List Bool)
bits_in words = fold with_pair (Some (replicate 256 false)) words

abbrev pub bits_of : Graph → List Bool
bits_of graph = lsb0_bits 64 graph.words

-- what is asked for: the closure of rows that are read, of pairs, or of a chain
pub data Asked : Type 0 where
  rows : Asked
  pairs : List Bool → Asked
  chain : ℕ → Asked

abbrev pub asked : Request → Asked
asked Rows = rows
asked (Pairs graph) = pairs (bits_of graph)
asked (Chain count) = chain count

abbrev pub word_at : List (List ℕ) → ℕ → List ℕ
word_at words k = slice_index_or words k []

-- `rows`, `pairs` and any number of pairs, or `chain N`
abbrev pub request_of : List (List ℕ) → Option Asked
request_of words =
    let verb : List ℕ = word_at words 0 in
    if bytes_eq verb (codes "rows") && length words == 1 then Some rows
    else if bytes_eq verb (codes "pairs") && nat_lt 0 (length words) then option_map (λ bits. pairs bits) (bits_in (drop 1 words))
    else if bytes_eq verb (codes "chain") && length words == 2 then option_map (λ count. chain count) (number_of 64 (word_at words 1))
    else None
