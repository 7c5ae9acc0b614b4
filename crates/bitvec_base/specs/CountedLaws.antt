-- How many bits are 1, and how many 0, of lists that were made of others.
use Rattle.std.specs.Prelude.{◌≡◌, ℕ, ◌+◌, ◌-◌, ◌<◌, ◌≤◌, Bool, true, false, not, cond, List, [], ◌∷◌, ◌++◌, length, map, take, drop, reverse, replicate, slice_index_or, slice_range, slice_set, refl}
use Rattle.std.proofs.Common.{arith, sym, ◌∙◌, ap}
use Rattle.std.proofs.lemmas.List.{length-reverse, length-set, take-append-drop}
use Rattle.std.proofs.lemmas.List.Folds.{sum_by-replicate}
use Rattle.std.proofs.lemmas.List.Sorted.{sum_by-IsPermutation, IsPermutation-reverse}
use Rattle.std.proofs.lemmas.List.Sums.{sum_by-append, sum_by-cons, sum_by-set}
use Rattle.bitvec_base.specs.CountLaws.{ones_and_zeros, count-join}
use Rattle.bitvec_base.specs.FillLaws.{flip-undoes}
use Rattle.bitvec_base.specs.LengthLaws.{length-rotated_left, length-rotated_right}
use Rattle.bitvec_base.specs.Lists.{rotated_left, rotated_right}
use Rattle.bitvec_base.specs.SliceLaws.{range-all}
use Rattle.bitvec_base.specs.Counts.{ones_of, zeros_of}

-- the zeros of two lists as long, with as many ones, are as many
zeros-by_ones : (xs ys : List Bool) → length xs ≡ length ys → ones_of xs ≡ ones_of ys → zeros_of xs ≡ zeros_of ys
zeros-by_ones xs ys long same = let left = ones_and_zeros xs in let right = ones_and_zeros ys in omega arith

-- ---- where the values stand at other places

ones-append : (xs ys : List Bool) → ones_of (xs ++ ys) ≡ ones_of xs + ones_of ys
ones-append xs ys = sum_by-append (λ (bit : Bool). cond bit 1 0) xs ys

ones-rotated : (k : ℕ) (list : List Bool) → ones_of (drop k list ++ take k list) ≡ ones_of list
ones-rotated k list =
    let same : ones_of (take k list ++ drop k list) ≡ ones_of list = ap (λ (l : List Bool). ones_of l) (take-append-drop k list) in
    let front = ones-append (take k list) (drop k list) in
    let back = ones-append (drop k list) (take k list) in
    omega arith

-- A list that is rotated to the left has as many ones as before.
pub ones-rotated_left : (k : ℕ) (list : List Bool) → ones_of (rotated_left k list) ≡ ones_of list
unfolding rotated_left
ones-rotated_left k list = ones-rotated k list

-- A list that is rotated to the right has as many ones as before.
pub ones-rotated_right : (k : ℕ) (list : List Bool) → ones_of (rotated_right k list) ≡ ones_of list
unfolding rotated_right
ones-rotated_right k list = ones-rotated (length list - k) list

-- A reversed list has as many ones as before.
pub ones-reversed : (list : List Bool) → ones_of (reverse list) ≡ ones_of list
ones-reversed list = sum_by-IsPermutation (λ (bit : Bool). cond bit 1 0) list (reverse list) (IsPermutation-reverse list)

-- A list that is rotated to the left has as many zeros as before.
pub zeros-rotated_left : (k : ℕ) (list : List Bool) → zeros_of (rotated_left k list) ≡ zeros_of list
zeros-rotated_left k list = zeros-by_ones _ _ (length-rotated_left k list) (ones-rotated_left k list)

-- A list that is rotated to the right has as many zeros as before.
pub zeros-rotated_right : (k : ℕ) (list : List Bool) → zeros_of (rotated_right k list) ≡ zeros_of list
zeros-rotated_right k list = zeros-by_ones _ _ (length-rotated_right k list) (ones-rotated_right k list)

-- A reversed list has as many zeros as before.
pub zeros-reversed : (list : List Bool) → zeros_of (reverse list) ≡ zeros_of list
zeros-reversed list = zeros-by_ones _ _ (length-reverse list) (ones-reversed list)

-- ---- where one bit was written

ones-set : (list : List Bool) (i : ℕ) (bit : Bool) → i < length list
    → ones_of (slice_set list i bit) + cond (slice_index_or list i false) 1 0 ≡ ones_of list + cond bit 1 0
ones-set list i bit inside = sum_by-set (λ (b : Bool). cond b 1 0) list i bit false inside

-- A list has one more 1 after a bit that is 0 is set to 1.
pub ones-more : (list : List Bool) (i : ℕ) → i < length list → slice_index_or list i false ≡ false
    → ones_of (slice_set list i true) ≡ ones_of list + 1
ones-more list i inside was =
    let sum = ones-set list i true inside in
    let none : cond {A = ℕ} (slice_index_or list i false) 1 0 ≡ 0 = ap (λ (b : Bool). cond {A = ℕ} b 1 0) was in
    omega arith

-- A list has one 1 fewer after a bit that is 1 is set to 0.
pub ones-fewer : (list : List Bool) (i : ℕ) → i < length list → slice_index_or list i false ≡ true
    → ones_of (slice_set list i false) ≡ ones_of list - 1
ones-fewer list i inside was =
    let sum = ones-set list i false inside in
    let one : cond {A = ℕ} (slice_index_or list i false) 1 0 ≡ 1 = ap (λ (b : Bool). cond {A = ℕ} b 1 0) was in
    omega arith

-- A list has one 0 fewer after a bit that is 0 is set to 1.
pub zeros-fewer : (list : List Bool) (i : ℕ) → i < length list → slice_index_or list i false ≡ false
    → zeros_of (slice_set list i true) ≡ zeros_of list - 1
zeros-fewer list i inside was =
    let more = ones-more list i inside was in
    let before = ones_and_zeros list in
    let after = ones_and_zeros (slice_set list i true) in
    let long = length-set list i true in
    omega arith

-- A list has one more 0 after a bit that is 1 is set to 0.
pub zeros-more : (list : List Bool) (i : ℕ) → i < length list → slice_index_or list i false ≡ true
    → zeros_of (slice_set list i false) ≡ zeros_of list + 1
zeros-more list i inside was =
    let sum = ones-set list i false inside in
    let one : cond {A = ℕ} (slice_index_or list i false) 1 0 ≡ 1 = ap (λ (b : Bool). cond {A = ℕ} b 1 0) was in
    let before = ones_and_zeros list in
    let after = ones_and_zeros (slice_set list i false) in
    let long = length-set list i false in
    omega arith

-- ---- of equal bits, and of flipped ones

-- A list of `n` ones has `n` bits that are 1.
pub ones-all : (n : ℕ) → ones_of (replicate n true) ≡ n
ones-all n = sum_by-replicate (λ (bit : Bool). cond bit 1 0) n true ∙ omega arith

-- A list of zeros has no bit that is 1.
pub ones-none : (n : ℕ) → ones_of (replicate n false) ≡ 0
ones-none n = sum_by-replicate (λ (bit : Bool). cond bit 1 0) n false ∙ omega arith

-- A list of `n` zeros has `n` bits that are 0.
pub zeros-all : (n : ℕ) → zeros_of (replicate n false) ≡ n
zeros-all n = sum_by-replicate (λ (bit : Bool). cond (not bit) 1 0) n false ∙ omega arith

-- A list of ones has no bit that is 0.
pub zeros-none : (n : ℕ) → zeros_of (replicate n true) ≡ 0
zeros-none n = sum_by-replicate (λ (bit : Bool). cond (not bit) 1 0) n true ∙ omega arith

-- A list with each bit flipped has as many ones as the list had zeros.
pub ones-flipped : (list : List Bool) → ones_of (map not list) ≡ zeros_of list
ones-flipped [] = refl
ones-flipped (bit ∷ list) =
    sum_by-cons (λ (b : Bool). cond b 1 0) (not bit) (map not list) ∙ ap (λ (n : ℕ). cond (not bit) 1 0 + n) (ones-flipped list)
    ∙ sym (sum_by-cons (λ (b : Bool). cond (not b) 1 0) bit list)

-- A list with each bit flipped has as many zeros as the list had ones.
pub zeros-flipped : (list : List Bool) → zeros_of (map not list) ≡ ones_of list
zeros-flipped list = sym (ones-flipped (map not list)) ∙ ap (λ (l : List Bool). ones_of l) (flip-undoes list)

-- ---- of the first and the other part of a list

-- A range from the start that reaches the list's end has all the ones of the list.
pub ones-whole : (list : List Bool) (e : ℕ) → length list ≤ e → ones_of (slice_range list 0 e) ≡ ones_of list
ones-whole list e whole = ap (λ (l : List Bool). ones_of l) (range-all list e whole)

-- The first `m` bits of a list have at most as many ones as the whole list.
pub ones-front : (list : List Bool) (m : ℕ) → m ≤ length list → ones_of (slice_range list 0 m) ≤ ones_of list
ones-front list m inside =
    let both = count-join list 0 m (length list) (omega arith) inside (omega arith) in
    let whole = ones-whole list (length list) (omega arith) in
    omega arith

-- The bits from `m` to the list's end have as many ones as the list has beside those of its first `m` bits.
pub ones-rest : (list : List Bool) (m e : ℕ) → m ≤ e → e ≡ length list
    → ones_of (slice_range list m e) ≡ ones_of list - ones_of (slice_range list 0 m)
ones-rest list m e order all =
    let both = count-join list 0 m e (omega arith) order (omega arith) in
    let whole = ones-whole list e (omega arith) in
    omega arith
