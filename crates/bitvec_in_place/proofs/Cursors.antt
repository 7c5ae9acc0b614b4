-- What the proofs of cursors, of edits by one place and of edits of a type want of a slice's bits.
use Rattle.std.specs.Prelude.{◌≡◌, ℕ, ◌+◌, ◌-◌, ◌<◌, ◌≤◌, Bool, false, true, List, length, refl, slice_range, take, drop}
use Rattle.std.proofs.Common.{arith, ◌∙◌, ap, inl}
use Rattle.std.proofs.lemmas.Slice.{between_from_start, between_to_end}
use Rattle.bitvec_base.specs.Window.{write_at}
use Rattle.bitvec_base.specs.WriteLaws.{length-slice_range, range-write_at}
use Rattle.bitvec_in_place.specs.FrontLaws.{front-range, inserted-is, removed-is}
use Rattle.bitvec_in_place.specs.MovedLaws.{length-bits_of}
use Rattle.bitvec_in_place.specs.RangeBitsLaws.{bits_in-range}
use Rattle.bitvec_in_place.specs.NumberPartsLaws.{stored-joined}
use Rattle.bitvec_in_place.specs.Ranges.{bits_in, number_in, numbered}
use Rattle.bitvec_numbers.specs.Integers.{integer_of}
use Rattle.bitvec_segments.specs.LoadLaws.{loaded-none}
use Rattle.bitvec_segments.specs.PlainLaws.{loaded-plain, loaded_be-plain, loaded_le-plain}
use Rattle.bitvec_segments.specs.Segments.{loaded, segment_bits, segment_number, stored}
use Rattle.bitvec_segments.specs.StoreLaws.{length-segment_bits}
use Rattle.bitvec_slice.specs.SeenLaws.{length_bits}

-- whether as many are left as are asked for
pub fewer : (position width left n : ℕ) → left ≡ n - position → left < width → (false ≡ true → position + width ≤ n) × (position + width ≤ n → false ≡ true)
fewer position width left n is short = ((λ no. cc), (λ fits. absurd (omega arith)))

pub enough : (position width left n : ℕ) → left ≡ n - position → width ≤ left → position ≤ n → (true ≡ true → position + width ≤ n) × (position + width ≤ n → true ≡ true)
enough position width left n is room inside = ((λ yes. omega arith), (λ fits. refl))

-- the number of a range from its own end, by the list; and that of no bit
pub range-number : (high : Bool) (b : ℕ) (list : List Bool) (from to : ℕ) → number_in high high b list from to ≡ segment_number high (slice_range list from to)
unfolding number_in
range-number high b list from to = loaded-plain high high b from (slice_range list from to) refl

pub no_number : (high : Bool) (b : ℕ) (list : List Bool) (from to : ℕ) → from ≡ to → number_in high high b list from to ≡ 0
unfolding number_in
no_number high b list from to is =
    let none : to - from ≡ 0 = omega arith in
    ap (λ (n : ℕ). loaded high high b from (take n (drop from list))) none ∙ loaded-none high high b from

pub none_taken : (high : Bool) (list : List Bool) (n : ℕ) → n ≡ 0 → segment_number high (take n list) ≡ 0
unfolding segment_number
none_taken high list n is = rw is refl

pub no_integer : (signed : Bool) → integer_of signed 1 0 ≡ integer_of signed 0 0
no_integer true = refl
no_integer false = refl

-- the first bits of a list in which these were written, and in which a number was stored
pub first_written : (all old new : List Bool) (n : ℕ) → n ≡ length new → n ≤ length old → all ≡ write_at old 0 new → slice_range all 0 n ≡ new
first_written all old new n long inside is =
    let end : n ≡ 0 + length new = omega arith in
    ap (λ (l : List Bool). slice_range l 0 n) is ∙ ap (λ (e : ℕ). slice_range (write_at old 0 new) 0 e) end ∙ range-write_at old 0 new (omega arith)

pub first_stored : (high : Bool) (b : ℕ) (all old : List Bool) (n v : ℕ) → 0 < b → n ≤ length old → all ≡ numbered high high b old 0 n v → slice_range all 0 n ≡ segment_bits high n v
unfolding numbered
first_stored high b all old n v some inside is =
    let long : length (slice_range old 0 n) ≡ n = length-slice_range old 0 n inside ∙ omega arith in
    let new : stored high high b 0 v (slice_range old 0 n) ≡ segment_bits high n v = stored-joined high high b 0 v (slice_range old 0 n) some (inl refl) ∙ ap (λ (k : ℕ). segment_bits high k v) long in
    let size = length-segment_bits high n v in
    first_written all old (segment_bits high n v) n (omega arith) inside (is ∙ ap (write_at old 0) new)

-- the next bits of what is left of a list
pub next_bits : (list rest : List Bool) (from n : ℕ) → rest ≡ bits_in list from (length list) → slice_range rest 0 n ≡ take n (drop from list)
unfolding bits_in
next_bits list rest from n is = between_from_start rest n ∙ ap (take n) (is ∙ between_to_end list from (length list) (omega arith))

pub ruleset moved = (arith, length-bits_of, inserted-is, removed-is)

pub ruleset cursors = (arith, length-bits_of, bits_in-range, front-range)

pub ruleset readers = (arith, length_bits, bits_in-range)

pub ruleset plain = (arith, loaded_be-plain, loaded_le-plain)
