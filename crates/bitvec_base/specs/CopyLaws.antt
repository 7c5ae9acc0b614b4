-- A part of a list copied over another part of it, a place at a time, and the shifts that are made so.
use Rattle.std.specs.Prelude.{◌≡◌, ℕ, ◌+◌, ◌-◌, ◌<◌, ◌≤◌, Bool, false, List, [], ◌∷◌, ◌++◌, length, replicate, slice_range, slice_set, slice_index_or}
use Rattle.std.proofs.Common.{arith, rules, ◌∙◌, ap, subst}
use Rattle.std.proofs.lemmas.List.{same_lists, places}
use Rattle.bitvec_base.specs.LengthLaws.{length-copied_within}
use Rattle.bitvec_base.specs.Lists.{copied_within, shifted_start, shifted_end}
use Rattle.bitvec_base.specs.SliceLaws.{range-push, range-front}
use Rattle.bitvec_base.specs.Window.{write_at}
use Rattle.bitvec_base.specs.WriteLaws.{length-slice_range, get-write_at_below, get-write_at_above, set-is_write, write_at-next, write_at-before}

pub copied_within-none : {X : Type 0} (from to dest : ℕ) (list : List X) → to ≤ from → dest ≤ length list → copied_within from to dest list ≡ list
unfolding copied_within write_at
copied_within-none from to dest list none fits = same_lists _ _ (search (rules, places)) (λ k d inside. grind (arith, places))

-- n values are copied, and the next one towards the end
pub copy-ascending : {X : Type 0} (list : List X) (from dest n : ℕ) (d : X) → dest ≤ from → from + n < length list → let now = copied_within from (from + n) dest list in slice_set now (dest + n) (slice_index_or now (from + n) d) ≡ copied_within from (from + (n + 1)) dest list
unfolding copied_within
copy-ascending {X} list from dest n d towards source =
    let now : List X = write_at list dest (slice_range list from (from + n)) in
    let part = length-slice_range list from (from + n) (omega arith) in
    let long : length now ≡ length list = length-copied_within from (from + n) dest list (omega arith) (omega arith) in
    let place : dest + length (slice_range list from (from + n)) ≡ dest + n = omega arith in
    let next : from + n + 1 ≡ from + (n + 1) = omega arith in
    let value = slice_index_or list (from + n) d in
    let read : slice_index_or now (from + n) d ≡ value = get-write_at_above list dest (slice_range list from (from + n)) (from + n) d (omega arith) (omega arith) in
    ap (λ (x : X). slice_set now (dest + n) x) read
    ∙ set-is_write now (dest + n) value (omega arith)
    ∙ subst (λ (s : ℕ). write_at now s (value ∷ []) ≡ write_at list dest (slice_range list from (from + n) ++ (value ∷ []))) place (write_at-next list dest (slice_range list from (from + n)) (value ∷ []) (omega arith))
    ∙ ap (λ (l : List X). write_at list dest l) (range-push list from (from + n) d (omega arith) source ∙ ap (λ (e : ℕ). slice_range list from e) next)

-- those from the nth on are copied, and the one before them, towards the start
pub copy-descending : {X : Type 0} (list : List X) (from to dest n : ℕ) (d : X) → from ≤ dest → 0 < n → from + n ≤ to → dest + (to - from) ≤ length list → let now = copied_within (from + n) to (dest + n) list in slice_set now (dest + (n - 1)) (slice_index_or now (from + (n - 1)) d) ≡ copied_within (from + (n - 1)) to (dest + (n - 1)) list
unfolding copied_within
copy-descending {X} list from to dest n d towards some bound fits =
    let now : List X = write_at list (dest + n) (slice_range list (from + n) to) in
    let part = length-slice_range list (from + n) to (omega arith) in
    let long : length now ≡ length list = length-copied_within (from + n) to (dest + n) list (omega arith) (omega arith) in
    let next-dest : dest + (n - 1) + 1 ≡ dest + n = omega arith in
    let next-from : from + (n - 1) + 1 ≡ from + n = omega arith in
    let value = slice_index_or list (from + (n - 1)) d in
    let read : slice_index_or now (from + (n - 1)) d ≡ value = get-write_at_below list (dest + n) (slice_range list (from + n) to) (from + (n - 1)) d (omega arith) (omega arith) in
    ap (λ (x : X). slice_set now (dest + (n - 1)) x) read
    ∙ set-is_write now (dest + (n - 1)) value (omega arith)
    ∙ subst (λ (s : ℕ). write_at (write_at list s (slice_range list (from + n) to)) (dest + (n - 1)) (value ∷ []) ≡ write_at list (dest + (n - 1)) (value ∷ slice_range list (from + n) to)) next-dest (write_at-before list (dest + (n - 1)) value (slice_range list (from + n) to) (omega arith))
    ∙ ap (λ (l : List X). write_at list (dest + (n - 1)) l) (subst (λ (m : ℕ). value ∷ slice_range list m to ≡ slice_range list (from + (n - 1)) to) next-from (range-front list (from + (n - 1)) to d (omega arith) (omega arith)))

-- a shift is a copy and a fill of the places that it leaves
pub copy-shifts_start : (k n : ℕ) (list : List Bool) → n ≡ length list → k ≤ n → write_at (copied_within k n 0 list) (n - k) (replicate k false) ≡ shifted_start k list
unfolding copied_within shifted_start write_at
copy-shifts_start k n list all fits = same_lists _ _ (search (rules, places)) (λ i d inside. grind (arith, places))

pub copy-shifts_end : (k n : ℕ) (list : List Bool) → n ≡ length list → k ≤ n → write_at (copied_within 0 (n - k) k list) 0 (replicate k false) ≡ shifted_end k list
unfolding copied_within shifted_end write_at
copy-shifts_end k n list all fits = same_lists _ _ (search (rules, places)) (λ i d inside. grind (arith, places))
