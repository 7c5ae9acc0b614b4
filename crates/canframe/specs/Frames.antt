-- A frame in a list of bits.
use Rattle.std.specs.Prelude.{◌≡◌, ℕ, ◌+◌, ◌*◌, ◌^◌, ◌<◌, ◌≤◌, Bool, true, List, length, slice_index}
use Rattle.bitvec.specs.Ranges.{bits_in, number_in}
use Rattle.canframe.specs.Checksums.{crc_of}

-- the number of the bits from `from` up to, without, `to`, the first of them highest
abbrev pub field : List Bool → ℕ → ℕ → ℕ
field bits from to = number_in true true 8 bits from to

-- the first fields: a frame begins, its id, that it brings data, that the id has 11 bits, a reserved bit, and how many bytes it brings
pub record HasHeader (bits : List Bool) (id count : ℕ) : Type 0 where
  pub start_is : field bits 0 1 ≡ 0
  pub id_is : field bits 1 12 ≡ id
  pub remote_is : field bits 12 13 ≡ 0
  pub extended_is : field bits 13 14 ≡ 0
  pub reserved_is : field bits 14 15 ≡ 0
  pub count_is : field bits 15 19 ≡ count

-- the first `count` of the bytes stand behind those
pub record HasBytes (bits : List Bool) (count : ℕ) (bytes : List ℕ) : Type 0 where
  pub each : (k : ℕ) → k < count → field bits (19 + 8 * k) (19 + 8 * k + 8) ≡ slice_index bytes k

-- the first `end` bits, and behind them their checksum and six zeros, which fill the last byte
pub record IsSealed (bits : List Bool) (end : ℕ) : Type 0 where
  pub checksum_is : field bits end (end + 15) ≡ crc_of (bits_in bits 0 end)
  pub filler_is : field bits (end + 15) (end + 15 + 6) ≡ 0

-- the bits are the frame of this id and these bytes
pub record IsFrame (bits : List Bool) (id : ℕ) (bytes : List ℕ) : Type 0 where
  pub valid : id < 2 ^ 11
  pub few : length bytes ≤ 8
  pub long : length bits ≡ 40 + 8 * length bytes
  pub header : HasHeader bits id (length bytes)
  pub stand : HasBytes bits (length bytes) bytes
  pub sealed : IsSealed bits (19 + 8 * length bytes)

-- they are that of none
pub record LacksFrame (bits : List Bool) : Type 0 where
  pub none : (id : ℕ) (bytes : List ℕ) → IsFrame bits id bytes → ⊥
