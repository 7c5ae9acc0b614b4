-- Rotations of a list: where a value comes to stand, by reversals, and one that undoes another.
use Rattle.std.specs.Prelude.{◌≡◌, ℕ, ◌+◌, ◌-◌, ◌<◌, ◌≤◌, List, ◌++◌, length, take, drop, reverse, slice_range, slice_index_or, refl}
use Rattle.std.proofs.Common.{arith, sym, ◌∙◌, ap, subst, ⊎_elim, inl, inr, length-take, length-drop}
use Rattle.std.proofs.Math.Seq.{drop-append_seam, take-append_seam}
use Rattle.std.proofs.lemmas.Bool.{cases_lt}
use Rattle.std.proofs.lemmas.List.{same_lists, places, length-append, take-append-drop}
use Rattle.bitvec_base.specs.LengthLaws.{length-rotated_left, length-rotated_right, length-reversed_part}
use Rattle.bitvec_base.specs.Lists.{rotated_left, rotated_right}
use Rattle.bitvec_base.specs.ReversalLaws.{get-reversed_part_inside, get-reversed_part_outside}
use Rattle.bitvec_base.specs.Window.{write_at}

-- ---- where a value comes to stand

pub get-rotated_left_first : {X : Type 0} (k : ℕ) (list : List X) (i : ℕ) (d : X) → k + i < length list → slice_index_or (rotated_left k list) i d ≡ slice_index_or list (k + i) d
unfolding rotated_left
get-rotated_left_first k list i d inside = grind (arith, places)

pub get-rotated_left_last : {X : Type 0} (k : ℕ) (list : List X) (i : ℕ) (d : X) → k ≤ length list → i < k → slice_index_or (rotated_left k list) (length list - k + i) d ≡ slice_index_or list i d
unfolding rotated_left
get-rotated_left_last k list i d fits inside = grind (arith, places)

-- ---- one rotation by the other

pub rotated_right-left : {X : Type 0} (k : ℕ) (list : List X) → rotated_right k list ≡ rotated_left (length list - k) list
unfolding rotated_right rotated_left
rotated_right-left k list = refl

-- A rotation by `k` to the left and then by `k` to the right gives the list again.
pub rotated_right-undoes : {X : Type 0} (k : ℕ) (list : List X) → k ≤ length list → rotated_right k (rotated_left k list) ≡ list
unfolding rotated_right rotated_left
rotated_right-undoes {X} k list h =
    let front = drop k list in
    let back = take k list in
    let seam : length (front ++ back) - k ≡ length front = omega (arith, length-append front back, length-take k list, length-drop k list) in
    ap (λ (n : ℕ). drop n (front ++ back) ++ take n (front ++ back)) seam
    ∙ ap (λ (xs : List X). xs ++ take (length front) (front ++ back)) (drop-append_seam front back)
    ∙ ap (λ (xs : List X). back ++ xs) (take-append_seam front back)
    ∙ take-append-drop k list

-- A rotation by `k` to the right and then by `k` to the left gives the list again.
pub rotated_left-undoes : {X : Type 0} (k : ℕ) (list : List X) → k ≤ length list → rotated_left k (rotated_right k list) ≡ list
rotated_left-undoes {X} k list h =
    let right = rotated_right k list in
    let long = length-rotated_right k list in
    let rest : length list - (length list - k) ≡ k = omega arith in
    let amount : length (rotated_left (length list - k) list) - (length list - k) ≡ k = omega (arith, length-rotated_left (length list - k) list) in
    ap (rotated_left k) (rotated_right-left k list)
    ∙ ap (λ (n : ℕ). rotated_left n (rotated_left (length list - k) list)) (sym amount)
    ∙ sym (rotated_right-left (length list - k) (rotated_left (length list - k) list))
    ∙ rotated_right-undoes (length list - k) list (omega arith)

-- ---- a rotation is three reversals: of the first k values, of the others, and of all

pub reversals-rotate : {X : Type 0} (k n : ℕ) (list : List X) → n ≡ length list → k ≤ n → let first = write_at list 0 (reverse (slice_range list 0 k)) in let both = write_at first k (reverse (slice_range first k n)) in write_at both 0 (reverse (slice_range both 0 n)) ≡ rotated_left k list
reversals-rotate {X} k n list all fits =
    let first : List X = write_at list 0 (reverse (slice_range list 0 k)) in
    let both : List X = write_at first k (reverse (slice_range first k n)) in
    let first-long : length first ≡ length list = length-reversed_part list 0 k (omega arith) (omega arith) in
    let both-long : length both ≡ length first = length-reversed_part first k n (omega arith) (omega arith) in
    let last-long : length (write_at both 0 (reverse (slice_range both 0 n))) ≡ length both = length-reversed_part both 0 n (omega arith) (omega arith) in
    same_lists _ _ (last-long ∙ both-long ∙ first-long ∙ sym (length-rotated_left k list)) (λ i d inside.
    let below : i < n = omega arith in
    get-reversed_part_inside both 0 n i d (omega arith) (omega arith) below
    ∙ ⊎_elim
    (λ (early : k + i < n).
    let from : k + (n - 1 - (0 + (n - 1 - i))) ≡ k + i = omega arith in
    get-reversed_part_inside first k n (0 + (n - 1 - i)) d (omega arith) (omega arith) (omega arith)
    ∙ ap (λ (m : ℕ). slice_index_or first m d) from
    ∙ get-reversed_part_outside list 0 k (k + i) d (omega arith) (omega arith) (inr (omega arith))
    ∙ sym (get-rotated_left_first k list i d (omega arith)))
    (λ (late : n ≤ k + i).
    let from : 0 + (k - 1 - (0 + (n - 1 - i))) ≡ k + i - n = omega arith in
    let place : length list - k + (k + i - n) ≡ i = omega arith in
    get-reversed_part_outside first k n (0 + (n - 1 - i)) d (omega arith) (omega arith) (inl (omega arith))
    ∙ get-reversed_part_inside list 0 k (0 + (n - 1 - i)) d (omega arith) (omega arith) (omega arith)
    ∙ ap (λ (m : ℕ). slice_index_or list m d) from
    ∙ sym (subst (λ (m : ℕ). slice_index_or (rotated_left k list) m d ≡ slice_index_or list (k + i - n) d) place (get-rotated_left_last k list (k + i - n) d (omega arith) (omega arith))))
    (cases_lt (k + i) n))
