-- How many bits of a list are 1, and how many 0.
use Rattle.std.specs.Prelude.{◌≡◌, ℕ, ◌+◌, ◌-◌, ◌≤◌, Bool, true, false, not, cond, List, [], ◌∷◌, length, count_by, slice_range, refl}
use Rattle.std.proofs.Common.{arith, sym, ◌∙◌, ap}
use Rattle.std.proofs.lemmas.List.Sums.{sum_by-append, sum_by-cons}
use Rattle.bitvec_base.specs.SliceLaws.{range-join}

-- The ones and the zeros of a list of bits are together as many as its bits.
pub ones_and_zeros : (list : List Bool) → count_by (λ (bit : Bool). bit) list + count_by not list ≡ length list
ones_and_zeros [] = refl
ones_and_zeros (true ∷ list) =
    let rest = ones_and_zeros list in
    let ones = sum_by-cons (λ (bit : Bool). cond bit 1 0) true list in
    let zeros = sum_by-cons (λ (bit : Bool). cond (not bit) 1 0) true list in
    omega arith
ones_and_zeros (false ∷ list) =
    let rest = ones_and_zeros list in
    let ones = sum_by-cons (λ (bit : Bool). cond bit 1 0) false list in
    let zeros = sum_by-cons (λ (bit : Bool). cond (not bit) 1 0) false list in
    omega arith

-- so the one number tells the other
pub ones_within : (list : List Bool) {n ones : ℕ} → n ≡ length list → ones ≡ count_by (λ (bit : Bool). bit) list → ones ≤ n
ones_within list long is = let sum = ones_and_zeros list in omega arith

pub zeros_left : (list : List Bool) {n ones : ℕ} → n ≡ length list → ones ≡ count_by (λ (bit : Bool). bit) list → n - ones ≡ count_by not list
zeros_left list long is = let sum = ones_and_zeros list in omega arith

-- the ones of slices: of two that meet, of one at most its length, of none
pub count-join : (list : List Bool) (a m e : ℕ) → a ≤ m → m ≤ e → e ≤ length list → count_by (λ (bit : Bool). bit) (slice_range list a m) + count_by (λ (bit : Bool). bit) (slice_range list m e) ≡ count_by (λ (bit : Bool). bit) (slice_range list a e)
count-join list a m e low high within =
    sym (sum_by-append (λ (bit : Bool). cond bit 1 0) (slice_range list a m) (slice_range list m e))
    ∙ ap (λ (l : List Bool). count_by (λ (bit : Bool). bit) l) (range-join list a m e low high within)
