-- The first and the last 1 of an element: bit by bit, and by a count of its zeros.
use Rattle.std.specs.Prelude.{◌≡◌, ◌≢◌, ℕ, ◌+◌, ◌-◌, ◌*◌, ◌/◌, ◌%◌, ◌^◌, ◌<◌, ◌≤◌, ◌==◌, zero, suc, true, false, slice_range, slice_index_or, bit_and, Some, None, refl}
use Rattle.std.specs.Int.{bit_at, w8, w16, w32, w64, w128}
use Rattle.std.specs.Int.Count.{count_leading_zeros, count_trailing_zeros, leading_of_zero, trailing_of_zero}
use Rattle.std.proofs.Common.{arith, sym, ◌∙◌, ap, ⊎_elim}
use Rattle.std.proofs.Math.Nat.{pow-suc}
use Rattle.std.proofs.lemmas.Bool.{cases_lt}
use Rattle.std.proofs.lemmas.Nat.{div-mul-add, leading_top, pow_pos}
use Rattle.std.proofs.lemmas.Nat.Bits.{and_pow, bit_at_above, bit_at-lt, bit_at-trailing_zeros, bit_at-zero}
use Rattle.bitvec_base.specs.Lists.{first_place, last_place}
use Rattle.bitvec_base.specs.ListsLaws.{first_place-found, first_place-none, last_place-found, last_place-none}
use Rattle.bitvec_base.specs.Memory.{element_bits}
use Rattle.bitvec_base.specs.MemoryLaws.{length-element_bits, get-element_bits}
use Rattle.bitvec_base.specs.PlacesLaws.{first_place-absent, first_place-before, first_place-below, first_place-bit, last_place-absent, last_place-after, last_place-below, last_place-bit}
use Rattle.bitvec_base.specs.ScanLaws.{first-here, first-not_here, last-here, last-not_here}
use Rattle.bitvec_base.specs.SliceLaws.{range-all}
use Rattle.bitvec_store.specs.Width.{IsWidth}
use Rattle.bitvec_store.specs.WidthLaws.{at_each_width}

-- ---- the bits of an element

pub bit-set : (b : ℕ) (at : ℕ → ℕ → ℕ) (v i : ℕ) → i < b → bit_at v (at b i) ≡ 1 → slice_index_or (element_bits b at v) i false ≡ true
bit-set b at v i below one = get-element_bits b at v i false below ∙ ap (λ (n : ℕ). n == 1) one

pub bit-clear : (b : ℕ) (at : ℕ → ℕ → ℕ) (v i : ℕ) → i < b → bit_at v (at b i) ≡ 0 → slice_index_or (element_bits b at v) i false ≡ false
bit-clear b at v i below none = get-element_bits b at v i false below ∙ ap (λ (n : ℕ). n == 1) none

clear_apart : (b : ℕ) (at : ℕ → ℕ → ℕ) (v i : ℕ) → i < b → bit_at v (at b i) ≡ 0 → slice_index_or (element_bits b at v) i false ≢ true
clear_apart b at v i below none set = let clear = bit-clear b at v i below none in absurd cc

is_set : (c : ℕ) → c < 2 → (c == 1) ≡ true → c ≡ 1
is_set zero h set = absurd cc
is_set (suc zero) h set = refl
is_set (suc (suc c)) h set = absurd (omega arith)

pub set-bit : (b : ℕ) (at : ℕ → ℕ → ℕ) (v i : ℕ) → i < b → slice_index_or (element_bits b at v) i false ≡ true → bit_at v (at b i) ≡ 1
set-bit b at v i below set = is_set _ (bit_at-lt v (at b i)) (sym (get-element_bits b at v i false below) ∙ set)

-- ---- one bit after the other

kept_one : (c w n : ℕ) → c < 2 → n ≡ c * w → n ≢ 0 → c ≡ 1
kept_one zero w n h is some = absurd (some (omega arith))
kept_one (suc zero) w n h is some = refl
kept_one (suc (suc c)) w n h is some = absurd (omega arith)

kept_none : (c w n : ℕ) → c < 2 → 0 < w → n ≡ c * w → n ≡ 0 → c ≡ 0
kept_none zero w n h more is none = refl
kept_none (suc zero) w n h more is none = absurd (omega arith)
kept_none (suc (suc c)) w n h more is none = absurd (omega arith)

-- a bit that a mask of it leaves, and one that it doesn't
pub masked-one : (v p n : ℕ) → n ≡ bit_and v (2 ^ p) → n ≢ 0 → bit_at v p ≡ 1
masked-one v p n is some = kept_one _ (2 ^ p) n (bit_at-lt v p) (is ∙ and_pow v p) some

pub masked-none : (v p n : ℕ) → n ≡ bit_and v (2 ^ p) → n ≡ 0 → bit_at v p ≡ 0
masked-none v p n is none = kept_none _ (2 ^ p) n (bit_at-lt v p) (pow_pos p) (is ∙ and_pow v p) none

pub first-one_here : (b : ℕ) (at : ℕ → ℕ → ℕ) (v i n : ℕ) → i < b → first_place true (slice_range (element_bits b at v) 0 i) ≡ None → n ≡ bit_and v (2 ^ at b i) → n ≢ 0 → Some i ≡ first_place true (element_bits b at v)
first-one_here b at v i n below none is some =
    let long = length-element_bits b at v in
    let all : slice_range (element_bits b at v) 0 b ≡ element_bits b at v = range-all (element_bits b at v) b (omega arith) in
    let place : i - 0 ≡ i = omega arith in
    let one = masked-one v (at b i) n is some in
    sym (ap (first_place true) (sym all) ∙ first-here true (element_bits b at v) 0 i b (omega arith) below (omega arith) none true (sym (bit-set b at v i below one)) refl ∙ ap Some place)

pub first-one_not_here : (b : ℕ) (at : ℕ → ℕ → ℕ) (v i n : ℕ) → i < b → first_place true (slice_range (element_bits b at v) 0 i) ≡ None → n ≡ bit_and v (2 ^ at b i) → n ≡ 0 → first_place true (slice_range (element_bits b at v) 0 (i + 1)) ≡ None
first-one_not_here b at v i n below none is clear =
    let long = length-element_bits b at v in
    let zero = masked-none v (at b i) n is clear in
    first-not_here true (element_bits b at v) 0 i (omega arith) (omega arith) none false (sym (bit-clear b at v i below zero)) refl

pub last-one_here : (b : ℕ) (at : ℕ → ℕ → ℕ) (v m n : ℕ) → 0 < m → m ≤ b → last_place true (slice_range (element_bits b at v) m b) ≡ None → n ≡ bit_and v (2 ^ at b (m - 1)) → n ≢ 0 → Some (m - 1) ≡ last_place true (element_bits b at v)
last-one_here b at v m n more order none is some =
    let long = length-element_bits b at v in
    let all : slice_range (element_bits b at v) 0 b ≡ element_bits b at v = range-all (element_bits b at v) b (omega arith) in
    let place : m - 1 - 0 ≡ m - 1 = omega arith in
    let one = masked-one v (at b (m - 1)) n is some in
    sym (ap (last_place true) (sym all) ∙ last-here true (element_bits b at v) 0 m b more order (omega arith) none true (sym (bit-set b at v (m - 1) (omega arith) one)) refl ∙ ap Some place)

pub last-one_not_here : (b : ℕ) (at : ℕ → ℕ → ℕ) (v m n : ℕ) → 0 < m → m ≤ b → last_place true (slice_range (element_bits b at v) m b) ≡ None → n ≡ bit_and v (2 ^ at b (m - 1)) → n ≡ 0 → last_place true (slice_range (element_bits b at v) (m - 1) b) ≡ None
last-one_not_here b at v m n more order none is clear =
    let long = length-element_bits b at v in
    let zero = masked-none v (at b (m - 1)) n is clear in
    last-not_here true (element_bits b at v) m b more order (omega arith) none false (sym (bit-clear b at v (m - 1) (omega arith) zero)) refl

-- after all of them
pub first-one_nowhere : {b : ℕ} (at : ℕ → ℕ → ℕ) (v : ℕ) {i : ℕ} → i ≡ b → first_place true (slice_range (element_bits b at v) 0 i) ≡ None → None ≡ first_place true (element_bits b at v)
first-one_nowhere {b} at v {i} all none =
    let long = length-element_bits b at v in
    sym (ap (first_place true) (sym (range-all (element_bits b at v) i (omega arith))) ∙ none)

pub last-one_nowhere : (b : ℕ) (at : ℕ → ℕ → ℕ) (v m : ℕ) → m ≡ 0 → last_place true (slice_range (element_bits b at v) m b) ≡ None → None ≡ last_place true (element_bits b at v)
last-one_nowhere b at v m all none =
    let long = length-element_bits b at v in
    sym (ap (last_place true) (sym (range-all (element_bits b at v) b (omega arith))) ∙ rw all at none)

-- ---- by a count of zeros, where index i is bit i

-- bit k of n is 1, and those below it are 0
abbrev IsLowest : ℕ → ℕ → ℕ → Type 0
IsLowest b n k = (k < b) × (bit_at n k ≡ 1) × ((i : ℕ) → i < k → bit_at n i ≡ 0)

lowest_one : (b : ℕ) → IsWidth b → (n : ℕ) → 0 < n → n < 2 ^ b → IsLowest b n (count_trailing_zeros b n)
lowest_one = at_each_width (λ (b : ℕ). (n : ℕ) → 0 < n → n < 2 ^ b → IsLowest b n (count_trailing_zeros b n)) (bit_at-trailing_zeros w8) (bit_at-trailing_zeros w16) (bit_at-trailing_zeros w32) (bit_at-trailing_zeros w64) (bit_at-trailing_zeros w128)

all_clear : (b n i : ℕ) → n ≡ 0 → i < b → slice_index_or (element_bits b (λ b i. i) n) i false ≢ true
all_clear b n i none below = clear_apart b (λ b i. i) n i below (ap (λ (m : ℕ). bit_at m i) none ∙ bit_at-zero i)

pub first-trailing_none : (b n z : ℕ) → IsWidth b → n < 2 ^ b → z ≡ count_trailing_zeros b n → z ≡ b → None ≡ first_place true (element_bits b (λ b i. i) n)
first-trailing_none b n z width fits is all =
    let long = length-element_bits b (λ b i. i) n in
    ⊎_elim (λ (some : 0 < n). let below = (lowest_one b width n some fits).0 in absurd (omega arith))
    (λ (none : n ≤ 0). sym (first_place-none true (element_bits b (λ b i. i) n) (λ k inside. all_clear b n k (omega arith) (omega arith))))
    (cases_lt 0 n)

pub first-trailing : (b n z : ℕ) → IsWidth b → n < 2 ^ b → z ≡ count_trailing_zeros b n → z ≢ b → Some z ≡ first_place true (element_bits b (λ b i. i) n)
first-trailing b n z width fits is apart =
    let long = length-element_bits b (λ b i. i) n in
    ⊎_elim (λ (some : 0 < n).
    let lowest = rw (← is) at (lowest_one b width n some fits) in
    let below = lowest.0 in
    sym (first_place-found true (element_bits b (λ b i. i) n) z (omega arith) (bit-set b (λ b i. i) n z below lowest.1) (λ k before. clear_apart b (λ b i. i) n k (omega arith) (lowest.2 k before))))
    (λ (none : n ≤ 0). let e : n ≡ 0 = omega arith in absurd (apart (is ∙ ap (count_trailing_zeros b) e ∙ trailing_of_zero b)))
    (cases_lt 0 n)

pub last-leading_none : (b n z : ℕ) → n < 2 ^ b → z ≡ count_leading_zeros b n → z ≡ b → None ≡ last_place true (element_bits b (λ b i. i) n)
last-leading_none b n z fits is all =
    let long = length-element_bits b (λ b i. i) n in
    ⊎_elim (λ (some : 0 < n). let sum = (leading_top b n some fits).1 in absurd (omega arith))
    (λ (none : n ≤ 0). sym (last_place-none true (element_bits b (λ b i. i) n) (λ k inside. all_clear b n k (omega arith) (omega arith))))
    (cases_lt 0 n)

-- the highest 1 of a number from 2 ^ j on and below twice as much
top_bit : (n j : ℕ) → 2 ^ j ≤ n → n < 2 ^ suc j → bit_at n j ≡ 1
top_bit n j low high =
    let twice : n - 2 ^ j < 2 ^ j = omega (arith, pow-suc 2 j) in
    let sum : 1 * 2 ^ j + (n - 2 ^ j) ≡ n = omega arith in
    let quotient : n / 2 ^ j ≡ 1 = ap (λ (m : ℕ). m / 2 ^ j) (sym sum) ∙ div-mul-add 1 (2 ^ j) (n - 2 ^ j) twice in
    ap (λ (m : ℕ). m % 2) quotient

pub last-leading : (b n z : ℕ) → n < 2 ^ b → z ≡ count_leading_zeros b n → z ≢ b → Some (b - 1 - z) ≡ last_place true (element_bits b (λ b i. i) n)
last-leading b n z fits is apart =
    let long = length-element_bits b (λ b i. i) n in
    ⊎_elim (λ (some : 0 < n).
    let top = leading_top b n some fits in
    let j : ℕ = top.0 in
    let sum = top.1 in
    let place : j ≡ b - 1 - z = omega arith in
    sym (last_place-found true (element_bits b (λ b i. i) n) j (omega arith) (bit-set b (λ b i. i) n j (omega arith) (top_bit n j top.2 top.3)) (λ k after inside. clear_apart b (λ b i. i) n k (omega arith) (bit_at_above n (suc j) k top.3 (omega arith))) ∙ ap Some place))
    (λ (none : n ≤ 0). let e : n ≡ 0 = omega arith in absurd (apart (is ∙ ap (count_leading_zeros b) e ∙ leading_of_zero b)))
    (cases_lt 0 n)

-- ---- the opposite order

mirrored_clear : (b n k : ℕ) → k < b → bit_at n (b - 1 - k) ≢ 1 → slice_index_or (element_bits b (λ b i. b - 1 - i) n) k false ≢ true
mirrored_clear b n k below clear set = clear (set-bit b (λ b i. b - 1 - i) n k below set)

pub first-mirrored_none : (b n : ℕ) → None ≡ last_place true (element_bits b (λ b i. i) n) → None ≡ first_place true (element_bits b (λ b i. b - 1 - i) n)
first-mirrored_none b n none =
    let long = length-element_bits b (λ b i. i) n in
    let mirrored = length-element_bits b (λ b i. b - 1 - i) n in
    sym (first_place-none true (element_bits b (λ b i. b - 1 - i) n) (λ k inside. mirrored_clear b n k (omega arith) (λ one. last_place-absent true (element_bits b (λ b i. i) n) (sym none) (b - 1 - k) (omega arith) (bit-set b (λ b i. i) n (b - 1 - k) (omega arith) one))))

pub last-mirrored_none : (b n : ℕ) → None ≡ first_place true (element_bits b (λ b i. i) n) → None ≡ last_place true (element_bits b (λ b i. b - 1 - i) n)
last-mirrored_none b n none =
    let long = length-element_bits b (λ b i. i) n in
    let mirrored = length-element_bits b (λ b i. b - 1 - i) n in
    sym (last_place-none true (element_bits b (λ b i. b - 1 - i) n) (λ k inside. mirrored_clear b n k (omega arith) (λ one. first_place-absent true (element_bits b (λ b i. i) n) (sym none) (b - 1 - k) (omega arith) (bit-set b (λ b i. i) n (b - 1 - k) (omega arith) one))))

pub last-below_width : (b n p : ℕ) → Some p ≡ last_place true (element_bits b (λ b i. i) n) → p < b
last-below_width b n p found =
    let long = length-element_bits b (λ b i. i) n in
    let below = last_place-below true (element_bits b (λ b i. i) n) p (sym found) in
    omega arith

pub first-below_width : (b n p : ℕ) → Some p ≡ first_place true (element_bits b (λ b i. i) n) → p < b
first-below_width b n p found =
    let long = length-element_bits b (λ b i. i) n in
    let below = first_place-below true (element_bits b (λ b i. i) n) p (sym found) in
    omega arith

pub first-mirrored : (b n p : ℕ) → Some p ≡ last_place true (element_bits b (λ b i. i) n) → Some (b - 1 - p) ≡ first_place true (element_bits b (λ b i. b - 1 - i) n)
first-mirrored b n p found =
    let long = length-element_bits b (λ b i. i) n in
    let mirrored = length-element_bits b (λ b i. b - 1 - i) n in
    let below = last-below_width b n p found in
    let back : b - 1 - (b - 1 - p) ≡ p = omega arith in
    let one = set-bit b (λ b i. i) n p below (last_place-bit true (element_bits b (λ b i. i) n) p (sym found)) in
    sym (first_place-found true (element_bits b (λ b i. b - 1 - i) n) (b - 1 - p) (omega arith) (bit-set b (λ b i. b - 1 - i) n (b - 1 - p) (omega arith) (ap (bit_at n) back ∙ one))
    (λ k before. mirrored_clear b n k (omega arith) (λ set. last_place-after true (element_bits b (λ b i. i) n) p (b - 1 - k) (sym found) (omega arith) (omega arith) (bit-set b (λ b i. i) n (b - 1 - k) (omega arith) set))))

pub last-mirrored : (b n p : ℕ) → Some p ≡ first_place true (element_bits b (λ b i. i) n) → Some (b - 1 - p) ≡ last_place true (element_bits b (λ b i. b - 1 - i) n)
last-mirrored b n p found =
    let long = length-element_bits b (λ b i. i) n in
    let mirrored = length-element_bits b (λ b i. b - 1 - i) n in
    let below = first-below_width b n p found in
    let back : b - 1 - (b - 1 - p) ≡ p = omega arith in
    let one = set-bit b (λ b i. i) n p below (first_place-bit true (element_bits b (λ b i. i) n) p (sym found)) in
    sym (last_place-found true (element_bits b (λ b i. b - 1 - i) n) (b - 1 - p) (omega arith) (bit-set b (λ b i. b - 1 - i) n (b - 1 - p) (omega arith) (ap (bit_at n) back ∙ one))
    (λ k after inside. mirrored_clear b n k (omega arith) (λ set. first_place-before true (element_bits b (λ b i. i) n) p (b - 1 - k) (sym found) (omega arith) (bit-set b (λ b i. i) n (b - 1 - k) (omega arith) set))))
