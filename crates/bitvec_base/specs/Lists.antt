-- Words on lists of values and on lists of bits.
use Rattle.std.specs.Prelude.{ℕ, ◌+◌, ◌-◌, ◌≤◌, Bool, false, not, ◌&&◌, nat_le, Option, None, List, ◌++◌, length, map, take, drop, replicate, filter, slice_get, slice_index_or, slice_range}
use Rattle.std.specs.Bool.{beq}
use Rattle.std.specs.Cmp.Lexicographic.{pointwise}
use Rattle.std.specs.List.{list_any, last_or, range_with_len}
use Rattle.bitvec_base.specs.Window.{write_at}

-- Whether two lists have the same bits, as `==` of two bit slices tells.
abbrev pub same_bits : List Bool → List Bool → Bool
same_bits = pointwise beq

-- Whether two bits differ: their `xor`.
abbrev pub differs : Bool → Bool → Bool
differs a b = not (beq a b)

-- Whether the list begins with the bits of `part`: `starts_with` of bit slices.
unfoldable pub is_prefix : List Bool → List Bool → Bool
is_prefix part list = nat_le (length part) (length list) && same_bits (take (length part) list) part

-- Whether the list ends with the bits of `part`: `ends_with` of bit slices.
unfoldable pub is_suffix : List Bool → List Bool → Bool
is_suffix part list = nat_le (length part) (length list) && same_bits (drop (length list - length part) list) part

-- Whether the bits of `part` stand in the list from place `k` on.
unfoldable pub stands_at : List Bool → List Bool → ℕ → Bool
stands_at part list k = nat_le (k + length part) (length list) && same_bits (slice_range list k (k + length part)) part

-- Whether the bits of `part` stand in the list from some place on: `bitvec`'s `contains`.
unfoldable pub stands_in : List Bool → List Bool → Bool
stands_in part list = list_any (stands_at part list) (range_with_len 0 (length list + 1))

-- The list with, at each place, `f` of its bit and the bit of `other` there, which is 0 past the end of `other`.
unfoldable pub combined : (Bool → Bool → Bool) → List Bool → List Bool → List Bool
combined f list other = map (λ i. f (slice_index_or list i false) (slice_index_or other i false)) (range_with_len 0 (length list))

-- The places of the list whose bit is `wanted`, in ascending order, as `iter_ones` and `iter_zeros` give them.
unfoldable pub places_of : Bool → List Bool → List ℕ
places_of wanted list = filter (λ i. beq (slice_index_or list i false) wanted) (range_with_len 0 (length list))

-- The least place whose bit is `wanted`, if there is one: `first_one` for 1, and `first_zero` for 0.
abbrev pub first_place : Bool → List Bool → Option ℕ
first_place wanted list = slice_get (places_of wanted list) 0

-- The greatest place whose bit is `wanted`, if there is one: `last_one` for 1, and `last_zero` for 0.
abbrev pub last_place : Bool → List Bool → Option ℕ
last_place wanted list = last_or None (places_of wanted list)

-- The list with its first `k` values behind the others, as `rotate_left(k)` leaves it.
unfoldable pub rotated_left : {X : Type 0} → ℕ → List X → List X
rotated_left k list = drop k list ++ take k list

-- The list with its last `k` values before the others, as `rotate_right(k)` leaves it.
unfoldable pub rotated_right : {X : Type 0} → ℕ → List X → List X
rotated_right k list = drop (length list - k) list ++ take (length list - k) list

-- The list with each bit `k` places nearer to the start, and zeros at the end: `bitvec`'s `shift_left`.
unfoldable pub shifted_start : ℕ → List Bool → List Bool
shifted_start k list = drop k list ++ replicate k false

-- The list with each bit `k` places nearer to the end, and zeros at the start: `bitvec`'s `shift_right`.
unfoldable pub shifted_end : ℕ → List Bool → List Bool
shifted_end k list = replicate k false ++ take (length list - k) list

-- The list with its values `from..to` also written from `dest` on, as `copy_within` leaves it.
unfoldable pub copied_within : {X : Type 0} → ℕ → ℕ → ℕ → List X → List X
copied_within from to dest list = write_at list dest (slice_range list from to)

-- The range `from..to` lies in a list of `n` values, and as many values have room from `dest` on.
pub record FitsWithin (from to dest n : ℕ) : Type 0 where
  pub order : from ≤ to
  pub source : to ≤ n
  pub room : dest + (to - from) ≤ n
