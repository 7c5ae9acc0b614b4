-- Edits that change only one range of a list: that each edit of a range is one, what stays beside it, and several such edits as one.
use Rattle.std.specs.Prelude.{◌≡◌, ℕ, ◌+◌, ◌-◌, ◌<◌, ◌≤◌, ◌⊎◌, Bool, false, List, length, refl, reverse, slice_set}
use Rattle.std.proofs.Common.{arith, ◌∙◌, inl, inr, ⊎_elim}
use Rattle.std.proofs.lemmas.List.{get_or-set_other, get_or_default, length-set}
use Rattle.bitvec_base.specs.LengthLaws as lasting
use Rattle.bitvec_base.specs.Lists.{copied_within, rotated_left, rotated_right, shifted_end, shifted_start}
use Rattle.bitvec_base.specs.Window.{write_at}
use Rattle.bitvec_within.specs.Combined.{combined_within}
use Rattle.bitvec_within.specs.CombinedLaws.{get-combined_within_above, get-combined_within_below, length-combined_within}
use Rattle.bitvec_in_place.specs.MovedLaws.{get-copied_outside, get-put_outside, length-put}
use Rattle.bitvec_in_place.specs.NumberPartsLaws.{number-same_bits}
use Rattle.bitvec_in_place.specs.RangeBitsLaws.{bits-same}
use Rattle.bitvec_in_place.specs.Ranges.{ChangesOnly, bits_in, edited, filled, flipped, joined, number_in, numbered}
use Rattle.bitvec_in_place.specs.RangesLaws.{get-filled_outside, get-flipped_outside, get-joined_outside, get-moved_end_outside, get-moved_start_outside, get-numbered_outside, get-reversed_outside, get-rotated_left_outside, get-rotated_right_outside, length-filled, length-flipped, length-joined, length-moved_end, length-moved_start, length-numbered, length-reversed, length-rotated_left, length-rotated_right}

-- Where no edit is made, no bit outside a range changes, whatever the range is.
pub changes-none : (from to : ℕ) (list : List Bool) → ChangesOnly from to list list
changes-none from to list = record { length = refl; bits = λ k outside. refl }

-- Two edits, each of a range inside `from..to`, change no bit outside `from..to`.
pub changes-then : (from to a e c f : ℕ) (old mid new : List Bool) → ChangesOnly a e old mid → ChangesOnly c f mid new → from ≤ a → e ≤ to → from ≤ c → f ≤ to → ChangesOnly from to old new
changes-then from to a e c f old mid new first second low high also within = record {
  length = second.length ∙ first.length;
  bits = λ k outside. ⊎_elim
      (λ (before : k < from). second.bits k (inl (omega arith)) ∙ first.bits k (inl (omega arith)))
      (λ (behind : to ≤ k). second.bits k (inr (omega arith)) ∙ first.bits k (inr (omega arith))) outside;
}

-- ---- edits of a range

module _ (list : List Bool) (from to : ℕ) (order : from ≤ to) (inside : to ≤ length list) where
  -- A fill of a range changes no bit outside it.
  pub changes-filled : (bit : Bool) → ChangesOnly from to list (filled list from to bit)
  changes-filled bit = record { length = length-filled list from to bit order inside; bits = λ k outside. get-filled_outside list from to bit k false order inside outside }

  -- A flip of a range's bits changes no bit outside it.
  pub changes-flipped : ChangesOnly from to list (flipped list from to)
  changes-flipped = record { length = length-flipped list from to order inside; bits = λ k outside. get-flipped_outside list from to k false order inside outside }

  -- A reversal of a range changes no bit outside it.
  pub changes-reversed : ChangesOnly from to list (edited reverse list from to)
  changes-reversed = record { length = length-reversed list from to order inside; bits = λ k outside. get-reversed_outside list from to k false order inside outside }

  -- A rotation of a range to the left changes no bit outside it.
  pub changes-rotated_left : (by : ℕ) → ChangesOnly from to list (edited (rotated_left by) list from to)
  changes-rotated_left by = record { length = length-rotated_left by list from to order inside; bits = λ k outside. get-rotated_left_outside by list from to k false order inside outside }

  -- A rotation of a range to the right changes no bit outside it.
  pub changes-rotated_right : (by : ℕ) → ChangesOnly from to list (edited (rotated_right by) list from to)
  changes-rotated_right by = record { length = length-rotated_right by list from to order inside; bits = λ k outside. get-rotated_right_outside by list from to k false order inside outside }

  -- A shift of a range towards its start changes no bit outside it.
  pub changes-moved_start : (by : ℕ) → by ≤ to - from → ChangesOnly from to list (edited (shifted_start by) list from to)
  changes-moved_start by fits = record { length = length-moved_start by list from to order inside fits; bits = λ k outside. get-moved_start_outside by list from to k false order inside fits outside }

  -- A shift of a range towards its end changes no bit outside it.
  pub changes-moved_end : (by : ℕ) → by ≤ to - from → ChangesOnly from to list (edited (shifted_end by) list from to)
  changes-moved_end by fits = record { length = length-moved_end by list from to order inside fits; bits = λ k outside. get-moved_end_outside by list from to k false order inside fits outside }

  -- A range joined with another list by `f` changes no bit outside it.
  pub changes-joined : (f : Bool → Bool → Bool) (other : List Bool) → ChangesOnly from to list (joined f list from to other)
  changes-joined f other = record { length = length-joined f list from to other order inside; bits = λ k outside. get-joined_outside f list from to other k false order inside outside }

  -- A store of a number in a range changes no bit outside it.
  pub changes-numbered : (big high : Bool) (b v : ℕ) → ChangesOnly from to list (numbered big high b list from to v)
  changes-numbered big high b v = record { length = length-numbered big high b list from to v order inside; bits = λ k outside. get-numbered_outside big high b list from to v k false order inside outside }

  -- A list as long as a range, written there, changes no bit outside it.
  pub changes-written : (new : List Bool) → from + length new ≡ to → ChangesOnly from to list (write_at list from new)
  changes-written new long = record { length = length-put list from to new order inside (omega arith); bits = λ k outside. get-put_outside list from to new order inside (omega arith) k false outside }

-- A bit that is set at `i` changes no bit outside the range `i..i + 1`.
pub changes-set : (list : List Bool) (i : ℕ) (bit : Bool) (to : ℕ) → to ≡ i + 1 → ChangesOnly i to list (slice_set list i bit)
changes-set list i bit to is = record {
  length = length-set list i bit;
  bits = λ k outside. get_or-set_other list i k bit false (λ (same : k ≡ i). ⊎_elim (λ (before : k < i). omega arith) (λ (behind : to ≤ k). omega arith) outside);
}

-- A copy of `from..to` to `dest` changes no bit outside the `to - from` bits from `dest` on.
pub changes-copied : (from to dest : ℕ) (list : List Bool) → to ≤ length list → dest + (to - from) ≤ length list → ChangesOnly dest (dest + (to - from)) list (copied_within from to dest list)
changes-copied from to dest list source room = record {
  length = lasting.length-copied_within from to dest list source room;
  bits = λ k outside. get-copied_outside from to dest list k false source room outside;
}

-- A combination of `from..to` with the bits at `dest` changes no bit outside the `to - from` bits from `dest` on.
pub changes-combined : (f : Bool → Bool → Bool) (from to dest : ℕ) (list : List Bool) → from ≤ to → dest + (to - from) ≤ length list → ChangesOnly dest (dest + (to - from)) list (combined_within f from to dest list)
changes-combined f from to dest list order room = record {
  length = length-combined_within f from to dest list order room;
  bits = λ k outside. ⊎_elim
      (λ (before : k < dest). get-combined_within_below f from to dest list k false order room before)
      (λ (behind : dest + (to - from) ≤ k). get-combined_within_above f from to dest list k false order room behind) outside;
}

-- ---- beside the range

-- Where only `from..to` changed, a range beside it has the bits that it had.
pub bits-unchanged : (old new : List Bool) (from to a e : ℕ) → ChangesOnly from to old new → e ≤ length old → (e ≤ from) ⊎ (to ≤ a) → bits_in new a e ≡ bits_in old a e
bits-unchanged old new from to a e kept within apart =
    let long = kept.length in
    bits-same old new a e long within (λ k d low below.
    let other : (k < from) ⊎ (to ≤ k) = ⊎_elim (λ (before : e ≤ from). inl (omega arith)) (λ (after : to ≤ a). inr (omega arith)) apart in
    get_or_default new k d false (omega arith) ∙ kept.bits k other ∙ get_or_default old k false d (omega arith))

-- Where only `from..to` changed, a range beside it has the number that it had.
pub number-unchanged : (big high : Bool) (b : ℕ) (old new : List Bool) (from to a e : ℕ) → ChangesOnly from to old new → e ≤ length old → (e ≤ from) ⊎ (to ≤ a)
    → number_in big high b new a e ≡ number_in big high b old a e
number-unchanged big high b old new from to a e kept within apart =
    number-same_bits big high b old new a e a e refl (bits-unchanged old new from to a e kept within apart)
