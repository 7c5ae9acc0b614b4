-- The bits of a range: how many there are, each of them, beside an edit, and in a range that was filled.
use Rattle.std.specs.Prelude.{◌≡◌, ◌≢◌, ℕ, ◌+◌, ◌-◌, ◌<◌, ◌≤◌, ◌⊎◌, Bool, true, false, not, None, Some, List, count_by, length, reverse, replicate, slice_index_or, slice_range, slice_set, refl}
use Rattle.std.specs.List.{list_all, list_any, swap}
use Rattle.std.proofs.Common.{arith, sym, ◌∙◌, ap, ⊎_elim, inl, inr}
use Rattle.std.proofs.lemmas.List.{get_or-replicate, get_or-set_other, length-replicate, length-set, same_lists}
use Rattle.std.proofs.lemmas.List.Edits.{length-swap}
use Rattle.bitvec_base.specs.LengthLaws as lasting
use Rattle.bitvec_base.specs.CountedLaws.{ones-all, ones-none, zeros-all, zeros-none}
use Rattle.bitvec_base.specs.FilledLaws.{all-filled, any-filled, first-filled, first-of_filled, last-filled}
use Rattle.bitvec_base.specs.Lists.{copied_within, first_place, last_place, rotated_left, rotated_right, shifted_end, shifted_start}
use Rattle.bitvec_base.specs.Window.{write_at}
use Rattle.bitvec_base.specs.WriteLaws.{get-slice_range, length-slice_range, range-write_at, range-write_at_after, range-write_at_before}
use Rattle.bitvec_within.specs.Combined.{combined_within}
use Rattle.bitvec_within.specs.CombinedLaws.{get-combined_within_above, get-combined_within_below, length-combined_within}
use Rattle.bitvec_within.specs.Swaps.{swapped_within}
use Rattle.bitvec_within.specs.SwapsLaws.{get-swapped_outside, length-swapped}
use Rattle.bitvec_in_place.specs.MovedLaws.{get-copied_outside, get-swap_other}
use Rattle.bitvec_in_place.specs.Ranges.{bits_in, edited, filled, flipped, joined, numbered}
use Rattle.bitvec_in_place.specs.RangesLaws.{get-filled_inside, get-filled_outside, get-flipped_outside, get-joined_outside, get-moved_end_outside, get-moved_start_outside, get-numbered_outside, get-reversed_outside, get-rotated_left_outside, get-rotated_right_outside, length-filled, length-flipped, length-joined, length-moved_end, length-moved_start, length-numbered, length-reversed, length-rotated_left, length-rotated_right}

-- The range `from..to` has `to - from` bits, where it lies in the list.
pub length-bits_in : (list : List Bool) (from to : ℕ) → to ≤ length list → length (bits_in list from to) ≡ to - from
unfolding bits_in
length-bits_in list from to inside = length-slice_range list from to inside

-- Bit `k` of a range's bits is the list's bit at `from + k`.
pub get-bits_in : (list : List Bool) (from to k : ℕ) (d : Bool) → from + k < to → slice_index_or (bits_in list from to) k d ≡ slice_index_or list (from + k) d
unfolding bits_in
get-bits_in list from to k d inside = get-slice_range list from to k d inside

-- The bits of a range are the list's `slice_range`.
pub bits_in-range : (list : List Bool) (from to : ℕ) → bits_in list from to ≡ slice_range list from to
unfolding bits_in
bits_in-range list from to = refl

-- ---- beside an edit

-- A range has the bits that it had, where each bit in it and the length of the list are as before.
pub bits-same : (old new : List Bool) (a e : ℕ) → length new ≡ length old → e ≤ length old
    → ((k : ℕ) (d : Bool) → a ≤ k → k < e → slice_index_or new k d ≡ slice_index_or old k d) → bits_in new a e ≡ bits_in old a e
bits-same old new a e long within each =
    let was = length-bits_in old a e within in
    let is = length-bits_in new a e (omega arith) in
    same_lists _ _ (omega arith) (λ k d inside.
    let short : a + k < e = omega arith in
    get-bits_in new a e k d short ∙ each (a + k) d (omega arith) short ∙ sym (get-bits_in old a e k d short))

-- a place in a range that lies apart from another is outside that one
beside : (from to a e k : ℕ) → (e ≤ from) ⊎ (to ≤ a) → a ≤ k → k < e → (k < from) ⊎ (to ≤ k)
beside from to a e k apart low high = ⊎_elim (λ (before : e ≤ from). inl (omega arith)) (λ (after : to ≤ a). inr (omega arith)) apart

module _ (list : List Bool) (from to : ℕ) (a e : ℕ) where
  -- A range beside one that was filled has the bits that it had.
  pub bits-filled : (bit : Bool) → from ≤ to → to ≤ length list → e ≤ length list → (e ≤ from) ⊎ (to ≤ a) → bits_in (filled list from to bit) a e ≡ bits_in list a e
  bits-filled bit order inside within apart =
      bits-same list (filled list from to bit) a e (length-filled list from to bit order inside) within
      (λ k d low high. get-filled_outside list from to bit k d order inside (beside from to a e k apart low high))

  -- A range beside one whose bits were flipped has the bits that it had.
  pub bits-flipped : from ≤ to → to ≤ length list → e ≤ length list → (e ≤ from) ⊎ (to ≤ a) → bits_in (flipped list from to) a e ≡ bits_in list a e
  bits-flipped order inside within apart =
      bits-same list (flipped list from to) a e (length-flipped list from to order inside) within
      (λ k d low high. get-flipped_outside list from to k d order inside (beside from to a e k apart low high))

  -- A range beside one that was reversed has the bits that it had.
  pub bits-reversed : from ≤ to → to ≤ length list → e ≤ length list → (e ≤ from) ⊎ (to ≤ a) → bits_in (edited reverse list from to) a e ≡ bits_in list a e
  bits-reversed order inside within apart =
      bits-same list (edited reverse list from to) a e (length-reversed list from to order inside) within
      (λ k d low high. get-reversed_outside list from to k d order inside (beside from to a e k apart low high))

  -- A range beside one that was rotated to the left has the bits that it had.
  pub bits-rotated_left : (by : ℕ) → from ≤ to → to ≤ length list → e ≤ length list → (e ≤ from) ⊎ (to ≤ a) → bits_in (edited (rotated_left by) list from to) a e ≡ bits_in list a e
  bits-rotated_left by order inside within apart =
      bits-same list (edited (rotated_left by) list from to) a e (length-rotated_left by list from to order inside) within
      (λ k d low high. get-rotated_left_outside by list from to k d order inside (beside from to a e k apart low high))

  -- A range beside one that was rotated to the right has the bits that it had.
  pub bits-rotated_right : (by : ℕ) → from ≤ to → to ≤ length list → e ≤ length list → (e ≤ from) ⊎ (to ≤ a) → bits_in (edited (rotated_right by) list from to) a e ≡ bits_in list a e
  bits-rotated_right by order inside within apart =
      bits-same list (edited (rotated_right by) list from to) a e (length-rotated_right by list from to order inside) within
      (λ k d low high. get-rotated_right_outside by list from to k d order inside (beside from to a e k apart low high))

  -- A range beside one that was shifted towards its start has the bits that it had.
  pub bits-moved_start : (by : ℕ) → from ≤ to → to ≤ length list → by ≤ to - from → e ≤ length list → (e ≤ from) ⊎ (to ≤ a) → bits_in (edited (shifted_start by) list from to) a e ≡ bits_in list a e
  bits-moved_start by order inside fits within apart =
      bits-same list (edited (shifted_start by) list from to) a e (length-moved_start by list from to order inside fits) within
      (λ k d low high. get-moved_start_outside by list from to k d order inside fits (beside from to a e k apart low high))

  -- A range beside one that was shifted towards its end has the bits that it had.
  pub bits-moved_end : (by : ℕ) → from ≤ to → to ≤ length list → by ≤ to - from → e ≤ length list → (e ≤ from) ⊎ (to ≤ a) → bits_in (edited (shifted_end by) list from to) a e ≡ bits_in list a e
  bits-moved_end by order inside fits within apart =
      bits-same list (edited (shifted_end by) list from to) a e (length-moved_end by list from to order inside fits) within
      (λ k d low high. get-moved_end_outside by list from to k d order inside fits (beside from to a e k apart low high))

  -- A range beside one that was joined with another list has the bits that it had.
  pub bits-joined : (f : Bool → Bool → Bool) (other : List Bool) → from ≤ to → to ≤ length list → e ≤ length list → (e ≤ from) ⊎ (to ≤ a) → bits_in (joined f list from to other) a e ≡ bits_in list a e
  bits-joined f other order inside within apart =
      bits-same list (joined f list from to other) a e (length-joined f list from to other order inside) within
      (λ k d low high. get-joined_outside f list from to other k d order inside (beside from to a e k apart low high))

  -- A range beside one in which a number was stored has the bits that it had.
  pub bits-numbered : (big high : Bool) (b v : ℕ) → from ≤ to → to ≤ length list → e ≤ length list → (e ≤ from) ⊎ (to ≤ a) → bits_in (numbered big high b list from to v) a e ≡ bits_in list a e
  bits-numbered big high b v order inside within apart =
      bits-same list (numbered big high b list from to v) a e (length-numbered big high b list from to v order inside) within
      (λ k d low below. get-numbered_outside big high b list from to v k d order inside (beside from to a e k apart low below))

  -- A bit that was set outside a range leaves the range's bits.
  pub bits-set : (i : ℕ) (bit : Bool) → e ≤ length list → (i < a) ⊎ (e ≤ i) → bits_in (slice_set list i bit) a e ≡ bits_in list a e
  bits-set i bit within apart =
      bits-same list (slice_set list i bit) a e (length-set list i bit) within
      (λ k d low high. get_or-set_other list i k bit d (λ (same : k ≡ i). ⊎_elim (λ (before : i < a). omega arith) (λ (after : e ≤ i). omega arith) apart))

  -- A swap of two bits outside a range leaves the range's bits.
  pub bits-swap : (i j : ℕ) → i < length list → j < length list → e ≤ length list → (i < a) ⊎ (e ≤ i) → (j < a) ⊎ (e ≤ j) → bits_in (swap list i j) a e ≡ bits_in list a e
  bits-swap i j first second within apart also =
      bits-same list (swap list i j) a e (length-swap list i j) within
      (λ k d low high. get-swap_other list i j k d
      (λ (same : k ≡ i). ⊎_elim (λ (before : i < a). omega arith) (λ (after : e ≤ i). omega arith) apart)
      (λ (same : k ≡ j). ⊎_elim (λ (before : j < a). omega arith) (λ (after : e ≤ j). omega arith) also) first second)

  -- A write beside a range leaves the range's bits.
  pub bits-written : (new : List Bool) → from + length new ≤ length list → e ≤ length list → (e ≤ from) ⊎ (from + length new ≤ a) → bits_in (write_at list from new) a e ≡ bits_in list a e
  unfolding bits_in
  bits-written new room within apart =
      ⊎_elim (λ (before : e ≤ from). range-write_at_before list from new a e room before)
      (λ (after : from + length new ≤ a). range-write_at_after list from new a e room after within) apart

  -- A copy to bits beside a range leaves the range's bits.
  pub bits-copied : (dest : ℕ) → to ≤ length list → dest + (to - from) ≤ length list → e ≤ length list → (e ≤ dest) ⊎ (dest + (to - from) ≤ a) → bits_in (copied_within from to dest list) a e ≡ bits_in list a e
  bits-copied dest source room within apart =
      bits-same list (copied_within from to dest list) a e (lasting.length-copied_within from to dest list source room) within
      (λ k d low high. get-copied_outside from to dest list k d source room (beside dest (dest + (to - from)) a e k apart low high))

  -- A swap of two ranges leaves the bits of a range beside both.
  pub bits-swapped : (dest : ℕ) → from ≤ to → to ≤ length list → dest + (to - from) ≤ length list → e ≤ length list → (e ≤ from) ⊎ (to ≤ a) → (e ≤ dest) ⊎ (dest + (to - from) ≤ a) → bits_in (swapped_within from to dest list) a e ≡ bits_in list a e
  bits-swapped dest order source room within front back =
      bits-same list (swapped_within from to dest list) a e (length-swapped from to dest list order source room) within
      (λ k d low high. get-swapped_outside from to dest list order source room k d (beside from to a e k front low high) (beside dest (dest + (to - from)) a e k back low high))

  -- A combination of a range with the bits at `dest` leaves the bits of a range beside these.
  pub bits-combined : (f : Bool → Bool → Bool) (dest : ℕ) → from ≤ to → dest + (to - from) ≤ length list → e ≤ length list → (e ≤ dest) ⊎ (dest + (to - from) ≤ a) → bits_in (combined_within f from to dest list) a e ≡ bits_in list a e
  bits-combined f dest order room within apart =
      bits-same list (combined_within f from to dest list) a e (length-combined_within f from to dest list order room) within
      (λ k d low high. ⊎_elim
      (λ (before : e ≤ dest). get-combined_within_below f from to dest list k d order room (omega arith))
      (λ (after : dest + (to - from) ≤ a). get-combined_within_above f from to dest list k d order room (omega arith)) apart)

-- A range in which a list of its length was written has this list's bits.
pub bits-written_here : (list : List Bool) (from to : ℕ) (new : List Bool) → to ≡ from + length new → to ≤ length list → bits_in (write_at list from new) from to ≡ new
unfolding bits_in
bits-written_here list from to new is inside = ap (λ (n : ℕ). slice_range (write_at list from new) from n) is ∙ range-write_at list from new (omega arith)

-- ---- in a range that was filled

module _ (list : List Bool) (from to a e : ℕ) where
  -- A range within one that was filled has the bit that fills it, as many times as it has places.
  pub bits-in_filled : (bit : Bool) → from ≤ a → e ≤ to → to ≤ length list → from ≤ to → bits_in (filled list from to bit) a e ≡ replicate (e - a) bit
  bits-in_filled bit low high inside order =
      let whole = length-filled list from to bit order inside in
      let long = length-bits_in (filled list from to bit) a e (omega arith) in
      let many = length-replicate (e - a) bit in
      same_lists _ _ (omega arith) (λ k d short.
      get-bits_in (filled list from to bit) a e k d (omega arith)
      ∙ get-filled_inside list from to bit (a + k) d inside (omega arith) (omega arith)
      ∙ sym (get_or-replicate (e - a) k bit d (omega arith)))

  -- A range within one that was filled with 1 has as many ones as bits.
  pub ones-in_filled : from ≤ a → a ≤ e → e ≤ to → to ≤ length list → count_by (λ (bit : Bool). bit) (bits_in (filled list from to true) a e) ≡ e - a
  ones-in_filled low some high inside = ap (count_by (λ (bit : Bool). bit)) (bits-in_filled true low high inside (omega arith)) ∙ ones-all (e - a)

  -- A range within one that was filled with 0 has no bit that is 1.
  pub ones-in_cleared : from ≤ a → a ≤ e → e ≤ to → to ≤ length list → count_by (λ (bit : Bool). bit) (bits_in (filled list from to false) a e) ≡ 0
  ones-in_cleared low some high inside = ap (count_by (λ (bit : Bool). bit)) (bits-in_filled false low high inside (omega arith)) ∙ ones-none (e - a)

  -- A range within one that was filled with 1 has no bit that is 0.
  pub zeros-in_filled : from ≤ a → a ≤ e → e ≤ to → to ≤ length list → count_by not (bits_in (filled list from to true) a e) ≡ 0
  zeros-in_filled low some high inside = ap (count_by not) (bits-in_filled true low high inside (omega arith)) ∙ zeros-none (e - a)

  -- A range within one that was filled with 0 has as many zeros as bits.
  pub zeros-in_cleared : from ≤ a → a ≤ e → e ≤ to → to ≤ length list → count_by not (bits_in (filled list from to false) a e) ≡ e - a
  zeros-in_cleared low some high inside = ap (count_by not) (bits-in_filled false low high inside (omega arith)) ∙ zeros-all (e - a)

  -- The first place of the bit in a range, not empty, within one that was filled with it is 0.
  pub first-in_filled : (bit : Bool) → from ≤ a → a < e → e ≤ to → to ≤ length list → first_place bit (bits_in (filled list from to bit) a e) ≡ Some 0
  first-in_filled bit low some high inside = ap (first_place bit) (bits-in_filled bit low high inside (omega arith)) ∙ first-of_filled bit (e - a) (omega arith)

  -- A range within one that was filled with another bit has no first place of the wanted one.
  pub first-in_other : (wanted bit : Bool) → bit ≢ wanted → from ≤ a → a ≤ e → e ≤ to → to ≤ length list → first_place wanted (bits_in (filled list from to bit) a e) ≡ None
  first-in_other wanted bit other low some high inside = ap (first_place wanted) (bits-in_filled bit low high inside (omega arith)) ∙ first-filled wanted bit (e - a) other

  -- A range within one that was filled with another bit has no last place of the wanted one.
  pub last-in_other : (wanted bit : Bool) → bit ≢ wanted → from ≤ a → a ≤ e → e ≤ to → to ≤ length list → last_place wanted (bits_in (filled list from to bit) a e) ≡ None
  last-in_other wanted bit other low some high inside = ap (last_place wanted) (bits-in_filled bit low high inside (omega arith)) ∙ last-filled wanted bit (e - a) other

  -- All bits are 1 in a range within one that was filled with 1.
  pub all-in_filled : from ≤ a → a ≤ e → e ≤ to → to ≤ length list → list_all (λ (bit : Bool). bit) (bits_in (filled list from to true) a e) ≡ true
  all-in_filled low some high inside = ap (list_all (λ (bit : Bool). bit)) (bits-in_filled true low high inside (omega arith)) ∙ all-filled (e - a)

  -- No bit is 1 in a range within one that was filled with 0.
  pub any-in_cleared : from ≤ a → a ≤ e → e ≤ to → to ≤ length list → list_any (λ (bit : Bool). bit) (bits_in (filled list from to false) a e) ≡ false
  any-in_cleared low some high inside = ap (list_any (λ (bit : Bool). bit)) (bits-in_filled false low high inside (omega arith)) ∙ any-filled (e - a)
