-- What stands at an index of a list whose values moved or changed, and that the list is as long.
use Rattle.std.specs.Prelude.{◌≡◌, ◌≢◌, ℕ, ◌+◌, ◌-◌, ◌*◌, ◌<◌, ◌≤◌, ◌⊎◌, Bool, false, not, List, length, map, replicate, slice_index_or, slice_range}
use Rattle.std.specs.List.{swap}
use Rattle.std.proofs.Common.{arith, sym, ◌∙◌, ap, ⊎_elim}
use Rattle.std.proofs.Math.ListN.{get_or-eq_default}
use Rattle.std.proofs.lemmas.Bool.{cases_lt}
use Rattle.std.proofs.lemmas.Grind.{get_or-set_at}
use Rattle.std.proofs.lemmas.List.{get_or-map, get_or-replicate, get_or-set_other, length-map, length-set, places}
use Rattle.std.proofs.lemmas.List.Edits.{swap_is}
use Rattle.bitvec_base.specs.FilledLaws.{bits-zeros}
use Rattle.bitvec_base.specs.Lists.{copied_within, rotated_left, rotated_right, shifted_end, shifted_start}
use Rattle.bitvec_base.specs.Memory.{memory_bits}
use Rattle.bitvec_base.specs.MemoryLaws.{length-memory_bits}
use Rattle.bitvec_base.specs.Window.{write_at}
use Rattle.bitvec_base.specs.WriteLaws.{get-slice_range, get-write_at_above, get-write_at_below, get-write_at_inside, length-slice_range, length-write_at}

-- ---- lengths

-- Elements of `b` bits have `b` times as many bits as there are elements.
pub length-bits_of : {T : Type 0} (b : ℕ) (at : ℕ → ℕ → ℕ) (value : T → ℕ) (elements : List T) → length (memory_bits b at (map value elements)) ≡ b * length elements
length-bits_of b at value elements = length-memory_bits b at (map value elements) ∙ ap (λ (n : ℕ). b * n) (length-map elements value)

module _ {X : Type 0} (list : List X) (from to : ℕ) (new : List X) (order : from ≤ to) (inside : to ≤ length list) (long : length new ≡ to - from) where
  -- A list of which a range was written is as long as before.
  pub length-put : length (write_at list from new) ≡ length list
  length-put = length-write_at list from new (omega arith)

  -- After a write of `from..to`, a value outside this range is as before.
  pub get-put_outside : (k : ℕ) (d : X) → (k < from) ⊎ (to ≤ k) → slice_index_or (write_at list from new) k d ≡ slice_index_or list k d
  get-put_outside k d apart =
      ⊎_elim (λ (low : k < from). get-write_at_below list from new k d (omega arith) low)
      (λ (above : to ≤ k). get-write_at_above list from new k d (omega arith) (omega arith)) apart

  -- After a write of `from..to`, the value at `k` in this range is the new list's at `k - from`.
  pub get-put_inside : (k : ℕ) (d : X) → from ≤ k → k < to → slice_index_or (write_at list from new) k d ≡ slice_index_or new (k - from) d
  get-put_inside k d low high = get-write_at_inside list from new k d (omega arith) low (omega arith)

-- ---- each value

-- The bit at `k` of a list whose bits were flipped is the opposite of the old one.
pub get-flip : (list : List Bool) (k : ℕ) (d : Bool) → k < length list → slice_index_or (map not list) k d ≡ not (slice_index_or list k d)
get-flip list k d inside = get_or-map not list k d d inside

-- After a rotation to the left, the value at `k` is the one at `k + by`, where this lies in the list.
pub get-rotated_left_early : {X : Type 0} (by : ℕ) (list : List X) (k : ℕ) (d : X) → k + by < length list → slice_index_or (rotated_left by list) k d ≡ slice_index_or list (k + by) d
unfolding rotated_left
get-rotated_left_early by list k d inside = grind (arith, places)

-- After a rotation to the left, each of the last `by` values is the old one at `k + by` less the length.
pub get-rotated_left_late : {X : Type 0} (by : ℕ) (list : List X) (k : ℕ) (d : X) → by ≤ length list → k < length list → length list ≤ k + by → slice_index_or (rotated_left by list) k d ≡ slice_index_or list (k + by - length list) d
unfolding rotated_left
get-rotated_left_late by list k d fits inside late = grind (arith, places)

-- After a rotation to the right, a value among the first `by` is the one at `k` plus the length, less `by`.
pub get-rotated_right_early : {X : Type 0} (by : ℕ) (list : List X) (k : ℕ) (d : X) → by ≤ length list → k < by → slice_index_or (rotated_right by list) k d ≡ slice_index_or list (k + length list - by) d
unfolding rotated_right
get-rotated_right_early by list k d fits early = grind (arith, places)

-- After a rotation to the right, a value from place `by` on is the one `by` places back.
pub get-rotated_right_late : {X : Type 0} (by : ℕ) (list : List X) (k : ℕ) (d : X) → by ≤ k → k < length list → slice_index_or (rotated_right by list) k d ≡ slice_index_or list (k - by) d
unfolding rotated_right
get-rotated_right_late by list k d late inside = grind (arith, places)

-- After a shift towards the start, the bit at `k` is the one at `k + by`, where this lies in the list.
pub get-shifted_start_kept : (by : ℕ) (list : List Bool) (k : ℕ) (d : Bool) → k + by < length list → slice_index_or (shifted_start by list) k d ≡ slice_index_or list (k + by) d
unfolding shifted_start
get-shifted_start_kept by list k d inside = grind (arith, places)

-- After a shift towards the start by `by`, each of the last `by` bits is 0.
pub get-shifted_start_zero : (by : ℕ) (list : List Bool) (k : ℕ) (d : Bool) → by ≤ length list → k < length list → length list ≤ k + by → slice_index_or (shifted_start by list) k d ≡ false
unfolding shifted_start
get-shifted_start_zero by list k d fits inside late = grind (arith, places)

-- After a shift towards the end by `by`, each of the first `by` bits is 0.
pub get-shifted_end_zero : (by : ℕ) (list : List Bool) (k : ℕ) (d : Bool) → k < by → slice_index_or (shifted_end by list) k d ≡ false
unfolding shifted_end
get-shifted_end_zero by list k d early = grind (arith, places)

-- After a shift towards the end, a bit from place `by` on is the one `by` places back.
pub get-shifted_end_kept : (by : ℕ) (list : List Bool) (k : ℕ) (d : Bool) → by ≤ k → k < length list → slice_index_or (shifted_end by list) k d ≡ slice_index_or list (k - by) d
unfolding shifted_end
get-shifted_end_kept by list k d late inside = grind (arith, places)

-- copied
module _ {X : Type 0} (from to dest : ℕ) (list : List X) where
  -- After a copy of `from..to` to `dest`, the value at `k` in the copy is the old one at `from + (k - dest)`.
  pub get-copied_inside : (k : ℕ) (d : X) → to ≤ length list → dest + (to - from) ≤ length list → dest ≤ k → k < dest + (to - from) → slice_index_or (copied_within from to dest list) k d ≡ slice_index_or list (from + (k - dest)) d
  unfolding copied_within
  get-copied_inside k d source room low high =
      let long = length-slice_range list from to source in
      get-put_inside list dest (dest + (to - from)) (slice_range list from to) (omega arith) room (omega arith) k d low high
      ∙ get-slice_range list from to (k - dest) d (omega arith)

  -- After a copy of `from..to` to `dest`, a value outside the copy is as before.
  pub get-copied_outside : (k : ℕ) (d : X) → to ≤ length list → dest + (to - from) ≤ length list → (k < dest) ⊎ (dest + (to - from) ≤ k) → slice_index_or (copied_within from to dest list) k d ≡ slice_index_or list k d
  unfolding copied_within
  get-copied_outside k d source room apart =
      let long = length-slice_range list from to source in
      get-put_outside list dest (dest + (to - from)) (slice_range list from to) (omega arith) room (omega arith) k d apart

-- After a swap of places `i` and `j`, the value at `i` is the old one at `j`.
pub get-swap_first : {X : Type 0} (list : List X) (i j k : ℕ) (d : X) → k ≡ i → i < length list → j < length list → slice_index_or (swap list i j) k d ≡ slice_index_or list j d
get-swap_first {X} list i j k d here first second =
    ap (λ (l : List X). slice_index_or l k d) (sym (swap_is list i j d first second)) ∙ grind (arith, get_or-set_at, get_or-set_other, length-set)

-- After a swap of places `i` and `j`, the value at `j` is the old one at `i`.
pub get-swap_second : {X : Type 0} (list : List X) (i j k : ℕ) (d : X) → k ≡ j → i < length list → j < length list → slice_index_or (swap list i j) k d ≡ slice_index_or list i d
get-swap_second {X} list i j k d here first second =
    ap (λ (l : List X). slice_index_or l k d) (sym (swap_is list i j d first second)) ∙ grind (arith, get_or-set_at, get_or-set_other, length-set)

-- After a swap of places `i` and `j`, a value at any other place is as before.
pub get-swap_other : {X : Type 0} (list : List X) (i j k : ℕ) (d : X) → k ≢ i → k ≢ j → i < length list → j < length list → slice_index_or (swap list i j) k d ≡ slice_index_or list k d
get-swap_other {X} list i j k d not_first not_second first second =
    ap (λ (l : List X). slice_index_or l k d) (sym (swap_is list i j d first second)) ∙ grind (arith, get_or-set_at, get_or-set_other, length-set)

-- Each bit of elements that are all 0 is 0, where the index lies in their bits.
pub get-zeros : (b : ℕ) (at : ℕ → ℕ → ℕ) (words : List ℕ) (k : ℕ) (d : Bool) → words ≡ replicate (length words) 0 → k < b * length words → slice_index_or (memory_bits b at words) k d ≡ false
get-zeros b at words k d zeros inside = ap (λ (l : List Bool). slice_index_or l k d) (bits-zeros b at words zeros) ∙ get_or-replicate (b * length words) k false d inside

-- A bit of elements that are all 0, read with the default 0, is 0 at any index.
pub get-zero : (b : ℕ) (at : ℕ → ℕ → ℕ) (words : List ℕ) (k : ℕ) → words ≡ replicate (length words) 0 → slice_index_or (memory_bits b at words) k false ≡ false
get-zero b at words k zeros =
    let long = length-memory_bits b at words in
    ⊎_elim (λ (inside : k < b * length words). get-zeros b at words k false zeros inside) (λ (past : b * length words ≤ k). get_or-eq_default (memory_bits b at words) false (omega arith)) (cases_lt k (b * length words))
