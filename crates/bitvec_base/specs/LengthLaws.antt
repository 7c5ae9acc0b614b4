-- A list whose values stand at other places is as long as before.
use Rattle.std.specs.Prelude.{◌≡◌, ℕ, ◌+◌, ◌-◌, ◌≤◌, Bool, false, List, length, take, drop, replicate, reverse, slice_range}
use Rattle.std.proofs.Common.{arith, length-take, length-drop}
use Rattle.std.proofs.lemmas.List.{length-append, length-map, length-replicate, length-reverse, length-set}
use Rattle.std.proofs.lemmas.List.Edits.{length-swap}
use Rattle.bitvec_base.specs.Lists.{rotated_left, rotated_right, shifted_start, shifted_end, copied_within}
use Rattle.bitvec_base.specs.ListsLaws.{length-combined}
use Rattle.bitvec_base.specs.Window.{write_at}
use Rattle.bitvec_base.specs.WriteLaws.{length-slice_range, length-write_at}

-- A list that is rotated to the left is as long as before.
pub length-rotated_left : {X : Type 0} (k : ℕ) (list : List X) → length (rotated_left k list) ≡ length list
unfolding rotated_left
length-rotated_left k list = omega (arith, length-append (drop k list) (take k list), length-take k list, length-drop k list)

-- A list that is rotated to the right is as long as before.
pub length-rotated_right : {X : Type 0} (k : ℕ) (list : List X) → length (rotated_right k list) ≡ length list
unfolding rotated_right rotated_left
length-rotated_right k list = length-rotated_left (length list - k) list

-- A list that is shifted toward its start, by at most its length, is as long as before.
pub length-shifted_start : (k : ℕ) (list : List Bool) → k ≤ length list → length (shifted_start k list) ≡ length list
unfolding shifted_start
length-shifted_start k list h =
    omega (arith, length-append (drop k list) (replicate k false), length-drop k list, length-replicate k false)

-- A list that is shifted toward its end, by at most its length, is as long as before.
pub length-shifted_end : (k : ℕ) (list : List Bool) → k ≤ length list → length (shifted_end k list) ≡ length list
unfolding shifted_end
length-shifted_end k list h =
    let kept = length list - k in
    omega (arith, length-append (replicate k false) (take kept list), length-take kept list, length-replicate k false)

-- A list with a part copied to another place that has room for it is as long as before.
pub length-copied_within : {X : Type 0} (from to dest : ℕ) (list : List X) → to ≤ length list → dest + (to - from) ≤ length list → length (copied_within from to dest list) ≡ length list
unfolding copied_within
length-copied_within from to dest list source fits =
    let part = length-slice_range list from to source in
    length-write_at list dest (slice_range list from to) (omega arith)

-- A list with its values `from..to` reversed is as long as before.
pub length-reversed_part : {X : Type 0} (list : List X) (from to : ℕ) → from ≤ to → to ≤ length list → length (write_at list from (reverse (slice_range list from to))) ≡ length list
length-reversed_part list from to order bound =
    let part = length-slice_range list from to bound in
    let mirrored = length-reverse (slice_range list from to) in
    length-write_at list from (reverse (slice_range list from to)) (omega arith)

-- The laws on lengths of lists that were rotated, shifted, copied, combined, written, sliced, reversed, swapped, set, mapped or filled,
-- for `using`.
pub ruleset list_lengths = (length-rotated_left, length-rotated_right, length-shifted_start, length-shifted_end, length-copied_within, length-combined, length-write_at, length-slice_range, length-reverse, length-swap, length-set, length-map, length-replicate)
