-- Numbers from the end that is the order's own, `le` under `Lsb0` and `be` under `Msb0`: they have no seam at the edge of an element,
-- so where a list stands counts for nothing. Of views and of arrays they are those of one segment.
use Rattle.std.specs.Prelude.{◌≡◌, ℕ, ◌+◌, ◌-◌, ◌<◌, ◌≤◌, Bool, List, length, refl, slice_range}
use Rattle.std.proofs.Common.{◌∙◌, ap, arith, inl}
use Rattle.bitvec_base.specs.Window.{write_at}
use Rattle.bitvec_base.specs.WriteLaws.{length-slice_range}
use Rattle.bitvec_in_place.specs.NumberPartsLaws.{stored-joined}
use Rattle.bitvec_in_place.specs.Ranges.{number_in, numbered}
use Rattle.bitvec_segments.specs.PlainLaws.{loaded-plain}
use Rattle.bitvec_segments.specs.Segments.{loaded, segment_bits, segment_number, stored}

-- A load from the order's own end gives the number of the list as one segment, wherever the list stands.
pub loaded-seamless : (high : Bool) (b s : ℕ) (list : List Bool) → loaded high high b s list ≡ segment_number high list
loaded-seamless high b s list = loaded-plain high high b s list refl

-- A store from the order's own end leaves the bits of one segment, wherever the list stands.
pub stored-seamless : (high : Bool) (b s v : ℕ) (list : List Bool) → 0 < b → stored high high b s v list ≡ segment_bits high (length list) v
stored-seamless high b s v list some = stored-joined high high b s v list some (inl refl)

-- The number of a range from the order's own end is that of its bits as one segment.
pub number-seamless : (high : Bool) (b : ℕ) (list : List Bool) (from to : ℕ) → number_in high high b list from to ≡ segment_number high (slice_range list from to)
unfolding number_in
number-seamless high b list from to = loaded-seamless high b from (slice_range list from to)

-- A number stored in a range from the order's own end is a write of one segment of `to - from` bits.
pub numbered-seamless : (high : Bool) (b : ℕ) (list : List Bool) (from to v : ℕ) → 0 < b → to ≤ length list → numbered high high b list from to v ≡ write_at list from (segment_bits high (to - from) v)
unfolding numbered
numbered-seamless high b list from to v some inside =
    let long = length-slice_range list from to inside in
    ap (write_at list from) (stored-seamless high b from v (slice_range list from to) some ∙ ap (λ (n : ℕ). segment_bits high n v) long)

-- A number that a cursor puts into the `n` bits from a place on is a write of one segment of `n` bits.
pub numbered-put : (high : Bool) (b : ℕ) (list : List Bool) (from n v : ℕ) → 0 < b → from + n ≤ length list → numbered high high b list from (from + n) v ≡ write_at list from (segment_bits high n v)
numbered-put high b list from n v some inside =
    let long : from + n - from ≡ n = omega arith in
    numbered-seamless high b list from (from + n) v some inside ∙ ap (λ (k : ℕ). write_at list from (segment_bits high k v)) long
