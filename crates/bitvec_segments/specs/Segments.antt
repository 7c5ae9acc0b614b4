-- Lists of bits cut at the edges of elements, and the numbers that they stand for.
--
-- `s` is the place of a list's first bit in a memory of b-bit elements; its remainder by b is the list's phase. Under an order that is
-- `high` the first bit of a segment is its highest, under any other its lowest.
use Rattle.std.specs.Prelude.{ℕ, ◌+◌, ◌-◌, ◌*◌, ◌/◌, ◌%◌, ◌^◌, ◌==◌, Bool, true, false, if◌then◌else◌, List, [], ◌∷◌, ◌++◌, length}
use Rattle.std.specs.List.{sum_by}
use Rattle.bitvec_base.specs.Memory.{element_bits}

-- The segments with one bit more at the front of the first one; the bit is the only segment where there is none.
abbrev pub in_first : Bool → List (List Bool) → List (List Bool)
in_first bit [] = (bit ∷ []) ∷ []
in_first bit (segment ∷ rest) = (bit ∷ segment) ∷ rest

-- the segments of a list: it is cut before each bit, but the first, whose place is a multiple of b
unfoldable pub segments : ℕ → ℕ → List Bool → List (List Bool)
segments b s [] = []
segments b s (bit ∷ list) = if (s + 1) % b == 0 then (bit ∷ []) ∷ segments b (s + 1) list else in_first bit (segments b (s + 1) list)

-- ---- the number of one segment

-- the number of the bit that stands at the index i of k bits
abbrev pub bit_number : Bool → ℕ → ℕ → ℕ
bit_number high k i = if high then k - 1 - i else i

-- The number of a segment of bits: its first bit is the highest where `high` holds, and else the lowest.
unfoldable pub segment_number : Bool → List Bool → ℕ
segment_number high [] = 0
segment_number false (bit ∷ rest) = segment_number false rest * 2 + (if bit then 1 else 0)
segment_number true (bit ∷ rest) = (if bit then 1 else 0) * 2 ^ length rest + segment_number true rest

-- the k bits of a segment whose number is v mod 2 ^ k
abbrev pub segment_bits : Bool → ℕ → ℕ → List Bool
segment_bits high k v = element_bits k (bit_number high) v

-- ---- the number of many: from the big end the first one is the highest, from the little end the lowest

-- The number of a list of segments: the first segment is highest where `big` holds, and else lowest.
unfoldable pub end_number : Bool → Bool → List (List Bool) → ℕ
end_number big high [] = 0
end_number false high (segment ∷ rest) = end_number false high rest * 2 ^ length segment + segment_number high segment
end_number true high (segment ∷ rest) = segment_number high segment * 2 ^ sum_by length rest + end_number true high rest

-- the bits of segments as long as these, whose number is v modulo two to the power of the bits they have
unfoldable pub end_bits : Bool → Bool → ℕ → List (List Bool) → List Bool
end_bits big high v [] = []
end_bits false high v (segment ∷ rest) = segment_bits high (length segment) v ++ end_bits false high (v / 2 ^ length segment) rest
end_bits true high v (segment ∷ rest) = segment_bits high (length segment) (v / 2 ^ sum_by length rest) ++ end_bits true high v rest

-- ---- lists at a place

-- The number that a load of a list of bits gives, from the place `s` on; it is big-endian where `big` holds.
unfoldable pub loaded : Bool → Bool → ℕ → ℕ → List Bool → ℕ
loaded big high b s list = end_number big high (segments b s list)

-- The number that `load_le` of `bitvec`'s `BitField` gives for a list of bits whose first one stands at the place `s`.
abbrev pub loaded_le : Bool → ℕ → ℕ → List Bool → ℕ
loaded_le high b s list = loaded false high b s list

-- The number that `load_be` of `bitvec`'s `BitField` gives for a list of bits whose first one stands at the place `s`.
abbrev pub loaded_be : Bool → ℕ → ℕ → List Bool → ℕ
loaded_be high b s list = loaded true high b s list

-- The bits that a store of the number `v` leaves in a list's place, from the place `s` on; it is big-endian where `big` holds.
unfoldable pub stored : Bool → Bool → ℕ → ℕ → ℕ → List Bool → List Bool
stored big high b s v list = end_bits big high v (segments b s list)

-- The bits that `store_le` of `bitvec`'s `BitField` leaves of a list whose first one stands at the place `s`.
abbrev pub stored_le : Bool → ℕ → ℕ → ℕ → List Bool → List Bool
stored_le high b s v list = stored false high b s v list

-- The bits that `store_be` of `bitvec`'s `BitField` leaves of a list whose first one stands at the place `s`.
abbrev pub stored_be : Bool → ℕ → ℕ → ℕ → List Bool → List Bool
stored_be high b s v list = stored true high b s v list
