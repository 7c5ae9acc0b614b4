-- Lists of bits after an edit of a range, the bits from `from` up to, without, `to`; every other bit is as before. A search carries
-- these words whole: what they mean at an index, of the length and as a number is read by laws.
use Rattle.std.specs.Prelude.{◌≡◌, ℕ, ◌-◌, ◌*◌, ◌<◌, ◌≤◌, ◌⊎◌, Bool, false, List, length, map, not, replicate, slice_index_or, slice_range}
use Rattle.bitvec_base.specs.Lists.{combined}
use Rattle.bitvec_base.specs.Window.{max_bits, write_at}
use Rattle.bitvec_segments.specs.Segments.{loaded, stored}

-- `HasBits b count from to` says that `count` elements of `b` bits have at most `max_bits` bits, and that the bits `from..to` lie in them.
pub record HasBits (b count from to : ℕ) : Type 0 where
  pub fits : b * count ≤ max_bits
  pub order : from ≤ to
  pub inside : to ≤ b * count

-- `bits_in list from to` is the bits `from..to` of a list.
unfoldable pub bits_in : List Bool → ℕ → ℕ → List Bool
bits_in list from to = slice_range list from to

-- `filled list from to bit` is the list with each bit of the range `bit`, as `fill` leaves it.
unfoldable pub filled : List Bool → ℕ → ℕ → Bool → List Bool
filled list from to bit = write_at list from (replicate (to - from) bit)

-- `flipped list from to` is the list with each bit of the range flipped, as `invert`, bitvec's `!`, leaves it.
unfoldable pub flipped : List Bool → ℕ → ℕ → List Bool
flipped list from to = write_at list from (map not (slice_range list from to))

-- `edited edit list from to` is the list with the range's bits as `edit` makes them, as `reverse` or `rotated_left 1`.
unfoldable pub edited : (List Bool → List Bool) → List Bool → ℕ → ℕ → List Bool
edited edit list from to = write_at list from (edit (slice_range list from to))

-- `joined f list from to other` is the list with each bit of the range `f` of itself and of `other`'s bit at its index in the range.
unfoldable pub joined : (Bool → Bool → Bool) → List Bool → ℕ → ℕ → List Bool → List Bool
joined f list from to other = write_at list from (combined f (slice_range list from to) other)

-- `number_in big high b list from to` is the range's number, as `load_be` (`big`) or `load_le` gives it; the list begins with an element of
-- `b` bits.
unfoldable pub number_in : Bool → Bool → ℕ → List Bool → ℕ → ℕ → ℕ
number_in big high b list from to = loaded big high b from (slice_range list from to)

-- `numbered big high b list from to v` is the list with the range's bits as `store_be` (`big`) or `store_le` of `v` leaves them.
unfoldable pub numbered : Bool → Bool → ℕ → List Bool → ℕ → ℕ → ℕ → List Bool
numbered big high b list from to v = write_at list from (stored big high b from v (slice_range list from to))

-- `ChangesOnly from to old new` says that the lists are of one length and have the same bits outside `from..to`.
pub record ChangesOnly (from to : ℕ) (old new : List Bool) : Type 0 where
  pub length : length new ≡ length old
  pub bits : (k : ℕ) → (k < from) ⊎ (to ≤ k) → slice_index_or new k false ≡ slice_index_or old k false
