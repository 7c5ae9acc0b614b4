-- What the words on edits of a range mean of the length, at an index, in a range beside, and as a write.
use Rattle.std.specs.Prelude.{◌≡◌, ℕ, ◌+◌, ◌-◌, ◌<◌, ◌≤◌, ◌⊎◌, Bool, false, not, List, length, map, replicate, reverse, slice_index_or, slice_range, refl}
use Rattle.std.proofs.Common.{arith, ◌∙◌, ap, ⊎_elim}
use Rattle.std.proofs.lemmas.List.{get_or-replicate, get_or-reverse, length-map, length-replicate, length-reverse}
use Rattle.bitvec_base.specs.LengthLaws as lasting
use Rattle.bitvec_base.specs.Lists.{combined, rotated_left, rotated_right, shifted_end, shifted_start}
use Rattle.bitvec_base.specs.ListsLaws.{get-combined, length-combined}
use Rattle.bitvec_base.specs.Window.{write_at}
use Rattle.bitvec_base.specs.WriteLaws.{get-slice_range, length-slice_range, range-write_at_after, range-write_at_before}
use Rattle.bitvec_segments.specs.Segments.{loaded, stored}
use Rattle.bitvec_segments.specs.StoreLaws.{length-stored}
use Rattle.bitvec_in_place.specs.MovedLaws.{get-flip, get-put_inside, get-put_outside, get-rotated_left_early, get-rotated_left_late, get-rotated_right_early, get-rotated_right_late, get-shifted_end_kept, get-shifted_end_zero, get-shifted_start_kept, get-shifted_start_zero, length-put}
use Rattle.bitvec_in_place.specs.Ranges.{edited, filled, flipped, joined, number_in, numbered}

-- ---- a list as long as a range, written there

module _ (list : List Bool) (from to : ℕ) (new : List Bool) (order : from ≤ to) (inside : to ≤ length list) (long : length new ≡ to - from) where
  -- A write of a range leaves the number of a range beside it.
  pub number-put : (big high : Bool) (b a e : ℕ) → a ≤ e → e ≤ length list → (e ≤ from) ⊎ (to ≤ a) → number_in big high b (write_at list from new) a e ≡ number_in big high b list a e
  unfolding number_in
  number-put big high b a e some within apart =
      ap (loaded big high b a) (⊎_elim (λ (before : e ≤ from). range-write_at_before list from new a e (omega arith) before)
      (λ (after : to ≤ a). range-write_at_after list from new a e (omega arith) (omega arith) within) apart)

-- what stood in a range
get-stood : (list : List Bool) (from to k : ℕ) (d : Bool) → from ≤ k → k < to → slice_index_or (slice_range list from to) (k - from) d ≡ slice_index_or list k d
get-stood list from to k d low high = get-slice_range list from to (k - from) d (omega arith) ∙ ap (λ (n : ℕ). slice_index_or list n d) (omega arith)

get-stood_at : (list : List Bool) (from to i j : ℕ) (d : Bool) → from + i ≡ j → j < to → slice_index_or (slice_range list from to) i d ≡ slice_index_or list j d
get-stood_at list from to i j d same high = get-slice_range list from to i d (omega arith) ∙ ap (λ (n : ℕ). slice_index_or list n d) same

-- ---- filled

module _ (list : List Bool) (from to : ℕ) (bit : Bool) where
  -- A fill of a range leaves the length of the list.
  pub length-filled : from ≤ to → to ≤ length list → length (filled list from to bit) ≡ length list
  unfolding filled
  length-filled order inside = length-put list from to (replicate (to - from) bit) order inside (length-replicate (to - from) bit)

  -- A fill of a range leaves each bit outside the range.
  pub get-filled_outside : (k : ℕ) (d : Bool) → from ≤ to → to ≤ length list → (k < from) ⊎ (to ≤ k) → slice_index_or (filled list from to bit) k d ≡ slice_index_or list k d
  unfolding filled
  get-filled_outside k d order inside apart = get-put_outside list from to (replicate (to - from) bit) order inside (length-replicate (to - from) bit) k d apart

  -- After a fill of a range, each bit in it is the one that fills it.
  pub get-filled_inside : (k : ℕ) (d : Bool) → to ≤ length list → from ≤ k → k < to → slice_index_or (filled list from to bit) k d ≡ bit
  unfolding filled
  get-filled_inside k d inside low high =
      get-put_inside list from to (replicate (to - from) bit) (omega arith) inside (length-replicate (to - from) bit) k d low high
      ∙ get_or-replicate (to - from) (k - from) bit d (omega arith)

  -- A fill of a range leaves the number of a range beside it.
  pub number-filled : (big high : Bool) (b a e : ℕ) → from ≤ to → to ≤ length list → a ≤ e → e ≤ length list → (e ≤ from) ⊎ (to ≤ a) → number_in big high b (filled list from to bit) a e ≡ number_in big high b list a e
  unfolding filled
  number-filled big high b a e order inside some within apart = number-put list from to (replicate (to - from) bit) order inside (length-replicate (to - from) bit) big high b a e some within apart

-- ---- edited by any function that keeps the length

module _ (edit : List Bool → List Bool) (list : List Bool) (from to : ℕ) where
  -- An edit that keeps a range's length leaves the length of the list.
  pub length-edited : from ≤ to → to ≤ length list → length (edit (slice_range list from to)) ≡ to - from → length (edited edit list from to) ≡ length list
  unfolding edited
  length-edited order inside long = length-put list from to (edit (slice_range list from to)) order inside long

  -- An edit that keeps a range's length leaves each bit outside the range.
  pub get-edited_outside : (k : ℕ) (d : Bool) → from ≤ to → to ≤ length list → length (edit (slice_range list from to)) ≡ to - from → (k < from) ⊎ (to ≤ k) → slice_index_or (edited edit list from to) k d ≡ slice_index_or list k d
  unfolding edited
  get-edited_outside k d order inside long apart = get-put_outside list from to (edit (slice_range list from to)) order inside long k d apart

  -- After an edit of a range, its bit at `k` is the one at `k - from` of what `edit` makes of it.
  pub get-edited_inside : (k : ℕ) (d : Bool) → to ≤ length list → length (edit (slice_range list from to)) ≡ to - from → from ≤ k → k < to → slice_index_or (edited edit list from to) k d ≡ slice_index_or (edit (slice_range list from to)) (k - from) d
  unfolding edited
  get-edited_inside k d inside long low high = get-put_inside list from to (edit (slice_range list from to)) (omega arith) inside long k d low high

  -- An edit that keeps a range's length leaves the number of a range beside it.
  pub number-edited : (big high : Bool) (b a e : ℕ) → from ≤ to → to ≤ length list → length (edit (slice_range list from to)) ≡ to - from → a ≤ e → e ≤ length list → (e ≤ from) ⊎ (to ≤ a) → number_in big high b (edited edit list from to) a e ≡ number_in big high b list a e
  unfolding edited
  number-edited big high b a e order inside long some within apart = number-put list from to (edit (slice_range list from to)) order inside long big high b a e some within apart

-- ---- flipped

module _ (list : List Bool) (from to : ℕ) where
  long-flipped : to ≤ length list → length (map not (slice_range list from to)) ≡ to - from
  long-flipped inside = length-map (slice_range list from to) not ∙ length-slice_range list from to inside

  -- A flip of a range's bits leaves the length of the list.
  pub length-flipped : from ≤ to → to ≤ length list → length (flipped list from to) ≡ length list
  unfolding flipped
  length-flipped order inside = length-put list from to (map not (slice_range list from to)) order inside (long-flipped inside)

  -- A flip of a range's bits leaves each bit outside the range.
  pub get-flipped_outside : (k : ℕ) (d : Bool) → from ≤ to → to ≤ length list → (k < from) ⊎ (to ≤ k) → slice_index_or (flipped list from to) k d ≡ slice_index_or list k d
  unfolding flipped
  get-flipped_outside k d order inside apart = get-put_outside list from to (map not (slice_range list from to)) order inside (long-flipped inside) k d apart

  -- After a flip of a range's bits, each bit in it is the opposite of the old one.
  pub get-flipped_inside : (k : ℕ) (d : Bool) → to ≤ length list → from ≤ k → k < to → slice_index_or (flipped list from to) k d ≡ not (slice_index_or list k d)
  unfolding flipped
  get-flipped_inside k d inside low high =
      let long = length-slice_range list from to inside in
      get-put_inside list from to (map not (slice_range list from to)) (omega arith) inside (long-flipped inside) k d low high
      ∙ get-flip (slice_range list from to) (k - from) d (omega arith) ∙ ap not (get-stood list from to k d low high)

  -- A flip of a range's bits leaves the number of a range beside it.
  pub number-flipped : (big high : Bool) (b a e : ℕ) → from ≤ to → to ≤ length list → a ≤ e → e ≤ length list → (e ≤ from) ⊎ (to ≤ a) → number_in big high b (flipped list from to) a e ≡ number_in big high b list a e
  unfolding flipped
  number-flipped big high b a e order inside some within apart = number-put list from to (map not (slice_range list from to)) order inside (long-flipped inside) big high b a e some within apart

-- ---- in the opposite order

module _ (list : List Bool) (from to : ℕ) where
  long-reversed : to ≤ length list → length (reverse (slice_range list from to)) ≡ to - from
  long-reversed inside = let long = length-slice_range list from to inside in length-reverse (slice_range list from to) ∙ long

  -- A reversal of a range leaves the length of the list.
  pub length-reversed : from ≤ to → to ≤ length list → length (edited reverse list from to) ≡ length list
  length-reversed order inside = length-edited reverse list from to order inside (long-reversed inside)

  -- A reversal of a range leaves each bit outside the range.
  pub get-reversed_outside : (k : ℕ) (d : Bool) → from ≤ to → to ≤ length list → (k < from) ⊎ (to ≤ k) → slice_index_or (edited reverse list from to) k d ≡ slice_index_or list k d
  get-reversed_outside k d order inside apart = get-edited_outside reverse list from to k d order inside (long-reversed inside) apart

  -- After a reversal of a range, a bit in it is the old one as far from the range's other end.
  pub get-reversed_inside : (k : ℕ) (d : Bool) → to ≤ length list → from ≤ k → k < to → slice_index_or (edited reverse list from to) k d ≡ slice_index_or list (from + (to - 1 - k)) d
  get-reversed_inside k d inside low high =
      let long = length-slice_range list from to inside in
      get-edited_inside reverse list from to k d inside (long-reversed inside) low high
      ∙ get_or-reverse (slice_range list from to) (k - from) d (omega arith)
      ∙ get-stood_at list from to (length (slice_range list from to) - 1 - (k - from)) (from + (to - 1 - k)) d (omega arith) (omega arith)

  -- A reversal of a range leaves the number of a range beside it.
  pub number-reversed : (big high : Bool) (b a e : ℕ) → from ≤ to → to ≤ length list → a ≤ e → e ≤ length list → (e ≤ from) ⊎ (to ≤ a) → number_in big high b (edited reverse list from to) a e ≡ number_in big high b list a e
  number-reversed big high b a e order inside some within apart = number-edited reverse list from to big high b a e order inside (long-reversed inside) some within apart

-- ---- rotated

module _ (by : ℕ) (list : List Bool) (from to : ℕ) where
  long-rotated_left : to ≤ length list → length (rotated_left by (slice_range list from to)) ≡ to - from
  long-rotated_left inside = let long = length-slice_range list from to inside in lasting.length-rotated_left by (slice_range list from to) ∙ long

  -- A rotation of a range to the left leaves the length of the list.
  pub length-rotated_left : from ≤ to → to ≤ length list → length (edited (rotated_left by) list from to) ≡ length list
  length-rotated_left order inside = length-edited (rotated_left by) list from to order inside (long-rotated_left inside)

  -- A rotation of a range to the left leaves each bit outside the range.
  pub get-rotated_left_outside : (k : ℕ) (d : Bool) → from ≤ to → to ≤ length list → (k < from) ⊎ (to ≤ k) → slice_index_or (edited (rotated_left by) list from to) k d ≡ slice_index_or list k d
  get-rotated_left_outside k d order inside apart = get-edited_outside (rotated_left by) list from to k d order inside (long-rotated_left inside) apart

  -- After a range's rotation to the left, the bit at `k` is the old one at `k + by`, where this lies before `to`.
  pub get-rotated_left_near : (k : ℕ) (d : Bool) → to ≤ length list → from ≤ k → k + by < to → slice_index_or (edited (rotated_left by) list from to) k d ≡ slice_index_or list (k + by) d
  get-rotated_left_near k d inside low high =
      let long = length-slice_range list from to inside in
      get-edited_inside (rotated_left by) list from to k d inside (long-rotated_left inside) low (omega arith)
      ∙ get-rotated_left_early by (slice_range list from to) (k - from) d (omega arith)
      ∙ get-stood_at list from to (k - from + by) (k + by) d (omega arith) high

  -- After a range's rotation to the left, one of its last `by` bits is the old one at `k + by` less its length.
  pub get-rotated_left_far : (k : ℕ) (d : Bool) → to ≤ length list → by ≤ to - from → from ≤ k → k < to → to ≤ k + by → slice_index_or (edited (rotated_left by) list from to) k d ≡ slice_index_or list (k + by - (to - from)) d
  get-rotated_left_far k d inside fits low high far =
      let long = length-slice_range list from to inside in
      get-edited_inside (rotated_left by) list from to k d inside (long-rotated_left inside) low high
      ∙ get-rotated_left_late by (slice_range list from to) (k - from) d (omega arith) (omega arith) (omega arith)
      ∙ get-stood_at list from to (k - from + by - length (slice_range list from to)) (k + by - (to - from)) d (omega arith) (omega arith)

  -- A rotation of a range to the left leaves the number of a range beside it.
  pub number-rotated_left : (big high : Bool) (b a e : ℕ) → from ≤ to → to ≤ length list → a ≤ e → e ≤ length list → (e ≤ from) ⊎ (to ≤ a) → number_in big high b (edited (rotated_left by) list from to) a e ≡ number_in big high b list a e
  number-rotated_left big high b a e order inside some within apart = number-edited (rotated_left by) list from to big high b a e order inside (long-rotated_left inside) some within apart

-- ---- rotated towards the end

module _ (by : ℕ) (list : List Bool) (from to : ℕ) where
  long-rotated_right : to ≤ length list → length (rotated_right by (slice_range list from to)) ≡ to - from
  long-rotated_right inside = let long = length-slice_range list from to inside in lasting.length-rotated_right by (slice_range list from to) ∙ long

  -- A rotation of a range to the right leaves the length of the list.
  pub length-rotated_right : from ≤ to → to ≤ length list → length (edited (rotated_right by) list from to) ≡ length list
  length-rotated_right order inside = length-edited (rotated_right by) list from to order inside (long-rotated_right inside)

  -- A rotation of a range to the right leaves each bit outside the range.
  pub get-rotated_right_outside : (k : ℕ) (d : Bool) → from ≤ to → to ≤ length list → (k < from) ⊎ (to ≤ k) → slice_index_or (edited (rotated_right by) list from to) k d ≡ slice_index_or list k d
  get-rotated_right_outside k d order inside apart = get-edited_outside (rotated_right by) list from to k d order inside (long-rotated_right inside) apart

  -- After a range's rotation to the right, one of its first `by` bits is the old one at `k` plus its length, less `by`.
  pub get-rotated_right_near : (k : ℕ) (d : Bool) → to ≤ length list → by ≤ to - from → from ≤ k → k < from + by → slice_index_or (edited (rotated_right by) list from to) k d ≡ slice_index_or list (k + (to - from) - by) d
  get-rotated_right_near k d inside fits low near =
      let long = length-slice_range list from to inside in
      get-edited_inside (rotated_right by) list from to k d inside (long-rotated_right inside) low (omega arith)
      ∙ get-rotated_right_early by (slice_range list from to) (k - from) d (omega arith) (omega arith)
      ∙ get-stood_at list from to (k - from + length (slice_range list from to) - by) (k + (to - from) - by) d (omega arith) (omega arith)

  -- After a rotation of a range to the right, a bit behind its first `by` is the old one `by` places back.
  pub get-rotated_right_far : (k : ℕ) (d : Bool) → to ≤ length list → from + by ≤ k → k < to → slice_index_or (edited (rotated_right by) list from to) k d ≡ slice_index_or list (k - by) d
  get-rotated_right_far k d inside far high =
      let long = length-slice_range list from to inside in
      get-edited_inside (rotated_right by) list from to k d inside (long-rotated_right inside) (omega arith) high
      ∙ get-rotated_right_late by (slice_range list from to) (k - from) d (omega arith) (omega arith)
      ∙ get-stood_at list from to (k - from - by) (k - by) d (omega arith) (omega arith)

  -- A rotation of a range to the right leaves the number of a range beside it.
  pub number-rotated_right : (big high : Bool) (b a e : ℕ) → from ≤ to → to ≤ length list → a ≤ e → e ≤ length list → (e ≤ from) ⊎ (to ≤ a) → number_in big high b (edited (rotated_right by) list from to) a e ≡ number_in big high b list a e
  number-rotated_right big high b a e order inside some within apart = number-edited (rotated_right by) list from to big high b a e order inside (long-rotated_right inside) some within apart

-- ---- shifted towards the start

module _ (by : ℕ) (list : List Bool) (from to : ℕ) where
  long-moved_start : to ≤ length list → by ≤ to - from → length (shifted_start by (slice_range list from to)) ≡ to - from
  long-moved_start inside fits = let long = length-slice_range list from to inside in lasting.length-shifted_start by (slice_range list from to) (omega arith) ∙ long

  -- A shift of a range towards its start leaves the length of the list.
  pub length-moved_start : from ≤ to → to ≤ length list → by ≤ to - from → length (edited (shifted_start by) list from to) ≡ length list
  length-moved_start order inside fits = length-edited (shifted_start by) list from to order inside (long-moved_start inside fits)

  -- A shift of a range towards its start leaves each bit outside the range.
  pub get-moved_start_outside : (k : ℕ) (d : Bool) → from ≤ to → to ≤ length list → by ≤ to - from → (k < from) ⊎ (to ≤ k) → slice_index_or (edited (shifted_start by) list from to) k d ≡ slice_index_or list k d
  get-moved_start_outside k d order inside fits apart = get-edited_outside (shifted_start by) list from to k d order inside (long-moved_start inside fits) apart

  -- After a range's shift towards its start, the bit at `k` is the old one at `k + by`, where this lies before `to`.
  pub get-moved_start_kept : (k : ℕ) (d : Bool) → to ≤ length list → by ≤ to - from → from ≤ k → k + by < to → slice_index_or (edited (shifted_start by) list from to) k d ≡ slice_index_or list (k + by) d
  get-moved_start_kept k d inside fits low high =
      let long = length-slice_range list from to inside in
      get-edited_inside (shifted_start by) list from to k d inside (long-moved_start inside fits) low (omega arith)
      ∙ get-shifted_start_kept by (slice_range list from to) (k - from) d (omega arith)
      ∙ get-stood_at list from to (k - from + by) (k + by) d (omega arith) high

  -- After a shift of a range towards its start by `by`, each of its last `by` bits is 0.
  pub get-moved_start_zero : (k : ℕ) (d : Bool) → to ≤ length list → by ≤ to - from → from ≤ k → k < to → to ≤ k + by → slice_index_or (edited (shifted_start by) list from to) k d ≡ false
  get-moved_start_zero k d inside fits low high far =
      let long = length-slice_range list from to inside in
      get-edited_inside (shifted_start by) list from to k d inside (long-moved_start inside fits) low high
      ∙ get-shifted_start_zero by (slice_range list from to) (k - from) d (omega arith) (omega arith) (omega arith)

  -- A shift of a range towards its start leaves the number of a range beside it.
  pub number-moved_start : (big high : Bool) (b a e : ℕ) → from ≤ to → to ≤ length list → by ≤ to - from → a ≤ e → e ≤ length list → (e ≤ from) ⊎ (to ≤ a) → number_in big high b (edited (shifted_start by) list from to) a e ≡ number_in big high b list a e
  number-moved_start big high b a e order inside fits some within apart = number-edited (shifted_start by) list from to big high b a e order inside (long-moved_start inside fits) some within apart

-- ---- shifted towards the end

module _ (by : ℕ) (list : List Bool) (from to : ℕ) where
  long-moved_end : to ≤ length list → by ≤ to - from → length (shifted_end by (slice_range list from to)) ≡ to - from
  long-moved_end inside fits = let long = length-slice_range list from to inside in lasting.length-shifted_end by (slice_range list from to) (omega arith) ∙ long

  -- A shift of a range towards its end leaves the length of the list.
  pub length-moved_end : from ≤ to → to ≤ length list → by ≤ to - from → length (edited (shifted_end by) list from to) ≡ length list
  length-moved_end order inside fits = length-edited (shifted_end by) list from to order inside (long-moved_end inside fits)

  -- A shift of a range towards its end leaves each bit outside the range.
  pub get-moved_end_outside : (k : ℕ) (d : Bool) → from ≤ to → to ≤ length list → by ≤ to - from → (k < from) ⊎ (to ≤ k) → slice_index_or (edited (shifted_end by) list from to) k d ≡ slice_index_or list k d
  get-moved_end_outside k d order inside fits apart = get-edited_outside (shifted_end by) list from to k d order inside (long-moved_end inside fits) apart

  -- After a shift of a range towards its end by `by`, each of its first `by` bits is 0.
  pub get-moved_end_zero : (k : ℕ) (d : Bool) → to ≤ length list → by ≤ to - from → from ≤ k → k < from + by → slice_index_or (edited (shifted_end by) list from to) k d ≡ false
  get-moved_end_zero k d inside fits low near =
      let long = length-slice_range list from to inside in
      get-edited_inside (shifted_end by) list from to k d inside (long-moved_end inside fits) low (omega arith)
      ∙ get-shifted_end_zero by (slice_range list from to) (k - from) d (omega arith)

  -- After a shift of a range towards its end, a bit behind its first `by` is the old one `by` places back.
  pub get-moved_end_kept : (k : ℕ) (d : Bool) → to ≤ length list → from + by ≤ k → k < to → slice_index_or (edited (shifted_end by) list from to) k d ≡ slice_index_or list (k - by) d
  get-moved_end_kept k d inside far high =
      let long = length-slice_range list from to inside in
      get-edited_inside (shifted_end by) list from to k d inside (long-moved_end inside (omega arith)) (omega arith) high
      ∙ get-shifted_end_kept by (slice_range list from to) (k - from) d (omega arith) (omega arith)
      ∙ get-stood_at list from to (k - from - by) (k - by) d (omega arith) (omega arith)

  -- A shift of a range towards its end leaves the number of a range beside it.
  pub number-moved_end : (big high : Bool) (b a e : ℕ) → from ≤ to → to ≤ length list → by ≤ to - from → a ≤ e → e ≤ length list → (e ≤ from) ⊎ (to ≤ a) → number_in big high b (edited (shifted_end by) list from to) a e ≡ number_in big high b list a e
  number-moved_end big high b a e order inside fits some within apart = number-edited (shifted_end by) list from to big high b a e order inside (long-moved_end inside fits) some within apart

-- ---- joined with another list

module _ (f : Bool → Bool → Bool) (list : List Bool) (from to : ℕ) (other : List Bool) where
  long-joined : to ≤ length list → length (combined f (slice_range list from to) other) ≡ to - from
  long-joined inside = length-combined f (slice_range list from to) other ∙ length-slice_range list from to inside

  -- A range joined with another list leaves the length of the list.
  pub length-joined : from ≤ to → to ≤ length list → length (joined f list from to other) ≡ length list
  unfolding joined
  length-joined order inside = length-put list from to (combined f (slice_range list from to) other) order inside (long-joined inside)

  -- A range joined with another list leaves each bit outside the range.
  pub get-joined_outside : (k : ℕ) (d : Bool) → from ≤ to → to ≤ length list → (k < from) ⊎ (to ≤ k) → slice_index_or (joined f list from to other) k d ≡ slice_index_or list k d
  unfolding joined
  get-joined_outside k d order inside apart = get-put_outside list from to (combined f (slice_range list from to) other) order inside (long-joined inside) k d apart

  -- After a range was joined, each bit in it is `f` of the old one and the other list's at `k - from`.
  pub get-joined_inside : (k : ℕ) (d : Bool) → to ≤ length list → from ≤ k → k < to → slice_index_or (joined f list from to other) k d ≡ f (slice_index_or list k false) (slice_index_or other (k - from) false)
  unfolding joined
  get-joined_inside k d inside low high =
      let long = length-slice_range list from to inside in
      get-put_inside list from to (combined f (slice_range list from to) other) (omega arith) inside (long-joined inside) k d low high
      ∙ get-combined f (slice_range list from to) other (k - from) d (omega arith)
      ∙ ap (λ (x : Bool). f x (slice_index_or other (k - from) false)) (get-stood list from to k false low high)

  -- A range joined with another list leaves the number of a range beside it.
  pub number-joined : (big high : Bool) (b a e : ℕ) → from ≤ to → to ≤ length list → a ≤ e → e ≤ length list → (e ≤ from) ⊎ (to ≤ a) → number_in big high b (joined f list from to other) a e ≡ number_in big high b list a e
  unfolding joined
  number-joined big high b a e order inside some within apart = number-put list from to (combined f (slice_range list from to) other) order inside (long-joined inside) big high b a e some within apart

-- ---- with a number stored

module _ (big high : Bool) (b : ℕ) (list : List Bool) (from to v : ℕ) where
  long-stored : to ≤ length list → length (stored big high b from v (slice_range list from to)) ≡ to - from
  long-stored inside = length-stored big high b from v (slice_range list from to) ∙ length-slice_range list from to inside

  -- A store of a number in a range leaves the length of the list.
  pub length-numbered : from ≤ to → to ≤ length list → length (numbered big high b list from to v) ≡ length list
  unfolding numbered
  length-numbered order inside = length-put list from to (stored big high b from v (slice_range list from to)) order inside (long-stored inside)

  -- A store of a number in a range leaves each bit outside the range.
  pub get-numbered_outside : (k : ℕ) (d : Bool) → from ≤ to → to ≤ length list → (k < from) ⊎ (to ≤ k) → slice_index_or (numbered big high b list from to v) k d ≡ slice_index_or list k d
  unfolding numbered
  get-numbered_outside k d order inside apart = get-put_outside list from to (stored big high b from v (slice_range list from to)) order inside (long-stored inside) k d apart

  -- A store of a number in a range leaves the number of a range beside it.
  pub number-beside : (end kind : Bool) (c a e : ℕ) → from ≤ to → to ≤ length list → a ≤ e → e ≤ length list → (e ≤ from) ⊎ (to ≤ a) → number_in end kind c (numbered big high b list from to v) a e ≡ number_in end kind c list a e
  unfolding numbered
  number-beside end kind c a e order inside some within apart = number-put list from to (stored big high b from v (slice_range list from to)) order inside (long-stored inside) end kind c a e some within apart

-- ---- each word as a write

-- `filled` is a write of the bit, as many times as the range has places.
pub filled-write : (list : List Bool) (from to : ℕ) (bit : Bool) → filled list from to bit ≡ write_at list from (replicate (to - from) bit)
unfolding filled
filled-write list from to bit = refl

-- `flipped` is a write of the range's bits, each of them flipped.
pub flipped-write : (list : List Bool) (from to : ℕ) → flipped list from to ≡ write_at list from (map not (slice_range list from to))
unfolding flipped
flipped-write list from to = refl

-- `edited` is a write of what `edit` makes of the range's bits.
pub edited-write : (edit : List Bool → List Bool) (list : List Bool) (from to : ℕ) → edited edit list from to ≡ write_at list from (edit (slice_range list from to))
unfolding edited
edited-write edit list from to = refl

-- `joined` is a write of the range's bits, combined by `f` with the other list's.
pub joined-write : (f : Bool → Bool → Bool) (list : List Bool) (from to : ℕ) (other : List Bool) → joined f list from to other ≡ write_at list from (combined f (slice_range list from to) other)
unfolding joined
joined-write f list from to other = refl

-- `numbered` is a write of the bits that a store of `v` leaves.
pub numbered-write : (big high : Bool) (b : ℕ) (list : List Bool) (from to v : ℕ) → numbered big high b list from to v ≡ write_at list from (stored big high b from v (slice_range list from to))
unfolding numbered
numbered-write big high b list from to v = refl

-- This set closes goals where a contract says `filled`, `flipped`, `edited`, `joined` or `numbered`, and an edit of a view says `write_at`.
pub ruleset worded = (filled-write, flipped-write, edited-write, joined-write, numbered-write)
