-- The header of a packet: eight fields in 64 bits, the first bit of each the highest.
use Rattle.std.specs.Prelude.{◌≡◌, ℕ, ◌^◌, ◌<◌, Bool, List, true}
use Rattle.bitvec.specs.Ranges.{number_in}

-- the number of the bits from `from` up to, without, `to`
abbrev pub field : List Bool → ℕ → ℕ → ℕ
field bits from to = number_in true true 8 bits from to

-- the bits begin with these fields
pub record HasHeader (bits : List Bool) (version words service mark len id flags offset : ℕ) : Type 0 where
  pub version_is : field bits 0 4 ≡ version
  pub words_is : field bits 4 8 ≡ words
  pub service_is : field bits 8 14 ≡ service
  pub mark_is : field bits 14 16 ≡ mark
  pub len_is : field bits 16 32 ≡ len
  pub id_is : field bits 32 48 ≡ id
  pub flags_is : field bits 48 51 ≡ flags
  pub offset_is : field bits 51 64 ≡ offset

-- each has the bits that it takes
pub record FitsHeader (version words service mark flags offset : ℕ) : Type 0 where
  pub version_fits : version < 2 ^ 4
  pub words_fits : words < 2 ^ 4
  pub service_fits : service < 2 ^ 6
  pub mark_fits : mark < 2 ^ 2
  pub flags_fits : flags < 2 ^ 3
  pub offset_fits : offset < 2 ^ 13
