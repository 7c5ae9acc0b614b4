-- Ranges of lists of bits at values, as calls on arrays and slices name them.
use Rattle.std.specs.Prelude.{◌≡◌, ◌&&◌, true, false, [], ◌∷◌, replicate, reverse, refl}
use Rattle.bitvec.specs.Fronts.{front_bits}
use Rattle.bitvec.specs.Inserted.{inserted, removed}
use Rattle.bitvec.specs.Lists.{combined}
use Rattle.bitvec.specs.Memory.{element_bits}
use Rattle.bitvec.specs.Ranges.{bits_in, edited, filled, flipped, joined, number_in, numbered}
use Rattle.bitvec.specs.Rows.{HasRow, row_len}
use Rattle.bitvec.specs.Segments.{end_bits, end_number, loaded, segment_number, segments, stored}
use Rattle.bitvec.specs.Window.{write_at}

pub bits_in-1 : bits_in (false ∷ true ∷ true ∷ false ∷ []) 1 3 ≡ true ∷ true ∷ []
unfolding bits_in
bits_in-1 = refl

pub filled-1 : filled (false ∷ false ∷ false ∷ false ∷ []) 1 3 true ≡ false ∷ true ∷ true ∷ false ∷ []
unfolding filled write_at
filled-1 = refl

pub flipped-1 : flipped (false ∷ true ∷ false ∷ true ∷ []) 1 3 ≡ false ∷ false ∷ true ∷ true ∷ []
unfolding flipped write_at
flipped-1 = refl

pub edited-1 : edited reverse (false ∷ true ∷ false ∷ false ∷ true ∷ []) 1 4 ≡ false ∷ false ∷ false ∷ true ∷ true ∷ []
unfolding edited write_at
edited-1 = refl

pub joined-1 : joined (λ a b. a && b) (true ∷ true ∷ true ∷ false ∷ []) 1 3 (false ∷ true ∷ []) ≡ true ∷ false ∷ true ∷ false ∷ []
unfolding joined combined write_at
joined-1 = refl

-- of 1,0,1,1, which two elements of four bits have, big-endian under `Msb0` and little-endian under `Lsb0`
pub number_in-1 : number_in true true 4 (false ∷ false ∷ true ∷ false ∷ true ∷ true ∷ false ∷ false ∷ []) 2 6 ≡ 11
unfolding number_in loaded segments end_number segment_number
number_in-1 = refl

pub number_in-2 : number_in false false 4 (false ∷ false ∷ true ∷ false ∷ true ∷ true ∷ false ∷ false ∷ []) 2 6 ≡ 13
unfolding number_in loaded segments end_number segment_number
number_in-2 = refl

pub numbered-1 : numbered true true 4 (replicate 8 false) 2 6 11 ≡ false ∷ false ∷ true ∷ false ∷ true ∷ true ∷ false ∷ false ∷ []
unfolding numbered stored segments end_bits element_bits write_at
numbered-1 = refl

pub row_len-1 : row_len ((4, 4) ∷ (4, 5) ∷ (16, 84) ∷ []) ≡ 24
row_len-1 = refl

-- a header's first byte, `45`: the version 4, and 5 as the header's length
pub HasRow-1 : HasRow true 8 (false ∷ true ∷ false ∷ false ∷ false ∷ true ∷ false ∷ true ∷ []) 0 ((4, 4) ∷ (4, 5) ∷ [])
unfolding number_in loaded segments end_number segment_number
HasRow-1 = record { numbers = (refl, (refl, tt)) }

pub front_bits-1 : front_bits (true ∷ false ∷ true ∷ []) 2 ≡ true ∷ false ∷ []
unfolding front_bits
front_bits-1 = refl

pub inserted-1 : inserted (true ∷ true ∷ false ∷ true ∷ []) 2 1 false ≡ true ∷ false ∷ true ∷ true ∷ []
unfolding inserted write_at
inserted-1 = refl

pub removed-1 : removed (true ∷ false ∷ true ∷ false ∷ []) 3 1 ≡ true ∷ true ∷ true ∷ false ∷ []
unfolding removed write_at
removed-1 = refl
