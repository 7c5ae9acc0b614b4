-- Numbers in windows at values: of 1,0,1,1, whose first bit stands at place 6 of a memory of bytes.
use Rattle.std.specs.Prelude.{◌≡◌, true, false, [], ◌∷◌, pos, negsuc, refl}
use Rattle.bitvec.specs.Integers.{integer_of, remainder_of}
use Rattle.bitvec.specs.Segments.{end_bits, end_number, loaded, loaded_be, loaded_le, segment_bits, segment_number, segments, stored, stored_be, stored_le}
use Rattle.bitvec.specs.Memory.{element_bits}

pub segments-1 : segments 8 6 (true ∷ false ∷ true ∷ true ∷ []) ≡ (true ∷ false ∷ []) ∷ (true ∷ true ∷ []) ∷ []
unfolding segments
segments-1 = refl

-- under `Lsb0` and under `Msb0`
pub segment_number-1 : segment_number false (true ∷ false ∷ false ∷ []) ≡ 1
unfolding segment_number
segment_number-1 = refl

pub segment_number-2 : segment_number true (true ∷ false ∷ false ∷ []) ≡ 4
unfolding segment_number
segment_number-2 = refl

pub loaded_le-1 : loaded_le true 8 6 (true ∷ false ∷ true ∷ true ∷ []) ≡ 14
unfolding loaded segments end_number segment_number
loaded_le-1 = refl

pub loaded_be-1 : loaded_be true 8 6 (true ∷ false ∷ true ∷ true ∷ []) ≡ 11
unfolding loaded segments end_number segment_number
loaded_be-1 = refl

pub stored_le-1 : stored_le true 8 6 14 (false ∷ false ∷ false ∷ false ∷ []) ≡ true ∷ false ∷ true ∷ true ∷ []
unfolding stored segments end_bits element_bits
stored_le-1 = refl

pub stored_be-1 : stored_be true 8 6 11 (false ∷ false ∷ false ∷ false ∷ []) ≡ true ∷ false ∷ true ∷ true ∷ []
unfolding stored segments end_bits element_bits
stored_be-1 = refl

pub segment_bits-1 : segment_bits false 3 4 ≡ false ∷ false ∷ true ∷ []
unfolding element_bits
segment_bits-1 = refl

pub segment_bits-2 : segment_bits true 3 4 ≡ true ∷ false ∷ false ∷ []
unfolding element_bits
segment_bits-2 = refl

-- the first segment is the lowest, and then the highest
pub end_number-1 : end_number false true ((true ∷ false ∷ []) ∷ (true ∷ true ∷ []) ∷ []) ≡ 14
unfolding end_number segment_number
end_number-1 = refl

pub end_number-2 : end_number true true ((true ∷ false ∷ []) ∷ (true ∷ true ∷ []) ∷ []) ≡ 11
unfolding end_number segment_number
end_number-2 = refl

-- 1101 as an unsigned number of four bits, and as a signed one: -3
pub integer_of-1 : integer_of false 4 13 ≡ pos 13
integer_of-1 = refl

pub integer_of-2 : integer_of true 4 13 ≡ negsuc 2
integer_of-2 = refl

pub remainder_of-1 : remainder_of 4 (negsuc 2) ≡ 13
remainder_of-1 = refl
