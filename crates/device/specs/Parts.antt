-- The part of the device that the words ask for.
use Rattle.std.specs.Prelude.{◌≡◌, ◌≢◌, ℕ, ◌-◌, ◌*◌, ◌<◌, ◌==◌, All, IsSomeAnd, if◌then◌else◌, nat_lt, List, [], ◌++◌, drop, length, replicate, slice_index_or, true, false, Option, Some, None, codes}
use Rattle.std.specs.Str.{bytes_eq}
use Rattle.bitvec.specs.Arrays.{lsb0_bits}
use Rattle.device.specs.Chunks.{HaveNumbers}
use Rattle.device.specs.Filter.{Has, place_of}
use Rattle.device.specs.Numbers.{◌>>=◌, numbers_of}
use Rattle.device.specs.Pattern.{HasPattern}
use Rattle.device.specs.Registers.{IsReserved, baud_of, bits_of, data_of, parity_of}
use Rattle.numerals.specs.Numerals.{number_of}
use Rattle.device.specs.declared.bloom.Bloom.{Bloom}
use Rattle.device.specs.declared.part.Part.{Part}
use Rattle.device.specs.declared.part.Part.TheVariants as part
use Rattle.device.specs.declared.uart.Uart.{Uart}

-- what is asked for
pub data Asked : Type 0 where
  uart : (baud parity byte : ℕ) → Asked
  bloom : (key : ℕ) (others : List ℕ) → Asked
  pattern : (number : ℕ) → Asked
  chunks : (count : ℕ) → Asked

abbrev pub word_at : List (List ℕ) → ℕ → List ℕ
word_at words k = slice_index_or words k []

-- BAUD PARITY DATA
abbrev pub uart_of : List (List ℕ) → Option Asked
uart_of words =
    if length words == 3 then (number_of 16 (word_at words 0) >>= λ baud. number_of 8 (word_at words 1) >>= λ parity. number_of 8 (word_at words 2) >>= λ byte.
    if nat_lt parity 4 then Some (uart baud parity byte) else None)
    else None

-- KEY OTHER ..
abbrev pub bloom_of : List (List ℕ) → Option Asked
bloom_of words =
    if nat_lt 0 (length words) then (number_of 64 (word_at words 0) >>= λ key. numbers_of (drop 1 words) >>= λ others. Some (bloom key others))
    else None

-- NUMBER
abbrev pub pattern_of : List (List ℕ) → Option Asked
pattern_of words = if length words == 1 then (number_of 16 (word_at words 0) >>= λ number. Some (pattern number)) else None

-- COUNT
abbrev pub chunks_of : List (List ℕ) → Option Asked
chunks_of words =
    if length words == 1 then (number_of 64 (word_at words 0) >>= λ count. if nat_lt count 9 then Some (chunks count) else None) else None

-- a part's name and its numbers
abbrev pub part_of : List ℕ → List (List ℕ) → Option Asked
part_of name words =
    if bytes_eq name (codes "uart") then uart_of words
    else if bytes_eq name (codes "bloom") then bloom_of words
    else if bytes_eq name (codes "pattern") then pattern_of words
    else if bytes_eq name (codes "chunks") then chunks_of words
    else None

abbrev pub asked_of : List (List ℕ) → Option Asked
asked_of words = if nat_lt 0 (length words) then part_of (word_at words 0) (drop 1 words) else None

-- ---- the parts

-- registers with these fields, whose other bits are ones
pub record IsUart (baud parity byte : ℕ) (made : Uart) : Type 0 where
  pub baud_is : baud_of made ≡ baud
  pub parity_is : parity_of made ≡ parity
  pub byte_is : data_of made ≡ byte
  pub reserved : (place : ℕ) → place < 128 → IsReserved place → slice_index_or (bits_of made) place false ≡ true

-- a filter of these keys: their places are ones, and all others zeros
pub record IsFilter (keys : List ℕ) (made : Bloom) : Type 0 where
  pub has : All (Has 3 made) keys
  pub others : (place : ℕ) → place < 256 → All (λ key. (round : ℕ) → round < 3 → place ≢ place_of key round) keys → slice_index_or (lsb0_bits 64 made.words) place false ≡ false

-- a filter of these keys is made where they are numbers
abbrev pub MakesFilter : Option (List ℕ) → Option Bloom → Type 0
MakesFilter None made = made ≡ None
MakesFilter (Some keys) made = IsSomeAnd made (IsFilter keys)

-- so many bytes, whose chunks have their numbers, and behind them ones, of eight
pub record HasChunks (count : ℕ) (bytes : List ℕ) : Type 0 where
  pub front : List ℕ
  pub long : length front ≡ count
  pub numbers : HaveNumbers (8 * count) front
  pub is : bytes ≡ front ++ replicate (8 - count) 255

-- the part is what is asked for
abbrev pub IsPart : Asked → Part → Type 0
IsPart (uart baud parity byte) (part.Uart made) = IsUart baud parity byte made
IsPart (bloom key others) (part.Bloom made wanted) = (wanted ≡ key) × IsFilter others made
IsPart (pattern number) (part.Pattern bytes) = HasPattern number bytes
IsPart (chunks count) (part.Chunks bytes) = HasChunks count bytes
IsPart _ _ = ⊥

-- it is made where something is asked for
abbrev pub Makes : Option Asked → Option Part → Type 0
Makes None made = made ≡ None
Makes (Some asked) made = IsSomeAnd made (IsPart asked)
