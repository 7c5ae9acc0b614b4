-- Lists cut into windows of one width: the numbers of the windows tell the list.
use Rattle.std.specs.Prelude.{◌≡◌, ℕ, ◌+◌, ◌-◌, ◌*◌, ◌/◌, ◌%◌, ◌<◌, ◌≤◌, Bool, List, length, slice_index_or, slice_range}
use Rattle.std.proofs.Common.{arith, sym, ◌∙◌, ap}
use Rattle.std.proofs.lemmas.List.{same_lists}
use Rattle.std.proofs.lemmas.Nat.{div_below, div-add-mod', mod_below, row_fits}
use Rattle.bitvec_base.specs.WriteLaws.{get-slice_range, length-slice_range}
use Rattle.bitvec_in_place.specs.Ranges.{number_in}
use Rattle.bitvec_segments.specs.NumberLaws.{segment-told}
use Rattle.bitvec_segments.specs.Segments.{segment_bits, segment_number}
use Rattle.bitvec.specs.SeamlessLaws.{number-seamless}

-- a range of one width by its number
window-told : (high : Bool) (b : ℕ) (list : List Bool) (from w : ℕ) → from + w ≤ length list → segment_bits high w (number_in high high b list from (from + w)) ≡ slice_range list from (from + w)
window-told high b list from w inside =
    let range : List Bool = slice_range list from (from + w) in
    let wide : length range ≡ w = length-slice_range list from (from + w) inside ∙ omega arith in
    ap (segment_bits high w) (number-seamless high b list from (from + w)) ∙ ap (λ (n : ℕ). segment_bits high n (segment_number high range)) (sym wide) ∙ segment-told high range

-- Two lists of `count` windows of `w` bits each are the same, where each window has the same number in both, from the order's own end.
pub windows-determine : (high : Bool) (b w count : ℕ) (x y : List Bool) → 0 < w → length x ≡ w * count → length y ≡ w * count
    → ((k : ℕ) → k < count → number_in high high b x (w * k) (w * k + w) ≡ number_in high high b y (w * k) (w * k + w)) → x ≡ y
windows-determine high b w count x y some long other each = same_lists _ _ (omega arith) (λ p d inside.
    let k : ℕ = p / w in
    let r : ℕ = p % w in
    let place : k * w + r ≡ p = div-add-mod' p w in
    let index = mod_below p w some in
    let below : k < count = div_below p w count some (omega arith) in
    let room = row_fits k w count w below (omega arith) in
    let same : slice_range x (w * k) (w * k + w) ≡ slice_range y (w * k) (w * k + w) =
    sym (window-told high b x (w * k) w (omega arith)) ∙ ap (segment_bits high w) (each k below) ∙ window-told high b y (w * k) w (omega arith) in
    let there : w * k + r ≡ p = omega arith in
    sym (ap (λ (n : ℕ). slice_index_or x n d) there) ∙ sym (get-slice_range x (w * k) (w * k + w) r d (omega arith))
    ∙ ap (λ (l : List Bool). slice_index_or l r d) same
    ∙ get-slice_range y (w * k) (w * k + w) r d (omega arith) ∙ ap (λ (n : ℕ). slice_index_or y n d) there)
