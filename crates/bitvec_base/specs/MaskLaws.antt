-- A mask has the bits of its indices and no other, and grows by one.
use Rattle.std.specs.Prelude.{◌≡◌, ◌≢◌, ℕ, ◌+◌, ◌-◌, ◌*◌, ◌/◌, ◌%◌, ◌^◌, ◌<◌, ◌≤◌, ◌⊎◌, zero, suc, max, bit_and, bit_or, count_ones, count_by, map, sum, Bool, refl, ◌==◌, cond}
use Rattle.std.specs.List.{range_with_len}
use Rattle.std.specs.Int.{bit_at}
use Rattle.std.proofs.Common.{arith, sym, ◌∙◌, ap, subst, ⊎_elim, inl, inr, add-one, lit<, mul_comm}
use Rattle.std.proofs.lemmas.Bool.{cases_eq, cases_lt}
use Rattle.std.proofs.Math.Nat.{sub_self, mod_self, mul-sub, pow-le-pow_right}
use lib.Bits.{and_zero_r, or_zero_r}
use Rattle.std.specs.Int.Count.{ones}
use Rattle.std.proofs.lemmas.List.FromFn.{sum_by-map-range_with_len_more}
use Rattle.std.proofs.lemmas.Nat.{or_disjoint, or_lt, pow_below, ones_cat, shr_split, mod-pow-add, mod_below, pow_pos, and_shr, and_mod, or_shr, or_mod, div_below, pow-add, shl_whole}
use Rattle.std.proofs.lemmas.Nat.Bits.{bit_at_and, bit_at_or, bit_at-lt, and_pow, bit_at-pow_same, bit_at-pow_other, bit_at-zero, same_from_bits_below, ones_shr, bit_at_mask_inside, bit_at_mask_below, bit_at_mask_above}
use Rattle.bitvec_base.specs.Order.{Permutes, mask_of}
use Rattle.bitvec_store.specs.Width.{IsWidth}
use Rattle.bitvec_base.specs.OrderLaws.{Permutes-onto, lsb0_permutes, msb0_permutes}

-- the bits of n indices, from the index `from` on
unfoldable pub run_mask : (ℕ → ℕ) → ℕ → ℕ → ℕ
run_mask at from n = sum (map (λ i. 2 ^ at i) (range_with_len from n))

pub mask_of-run : (at : ℕ → ℕ) (from to : ℕ) → mask_of at from to ≡ run_mask at from (to - from)
unfolding mask_of run_mask
mask_of-run at from to = refl

pub run_mask-none : (at : ℕ → ℕ) (from : ℕ) → run_mask at from 0 ≡ 0
unfolding run_mask
run_mask-none at from = refl

pub run_mask-more : (at : ℕ → ℕ) (from n : ℕ) → run_mask at from (n + 1) ≡ run_mask at from n + 2 ^ at (from + n)
unfolding run_mask
run_mask-more at from n = sum_by-map-range_with_len_more (λ x. x) (λ i. 2 ^ at i) from n (from + n) refl

-- a power added where its bit is 0 is an `or`
pub or_single : (m k : ℕ) → bit_at m k ≡ 0 → bit_or m (2 ^ k) ≡ m + 2 ^ k
or_single m k e = or_disjoint m (2 ^ k) (and_pow m k ∙ ap (λ c. c * 2 ^ k) e ∙ omega arith)

-- one bit more, where it was 0
bit_at_joined : (m k p : ℕ) → bit_at m k ≡ 0 → bit_at (m + 2 ^ k) p ≡ max (bit_at m p) (bit_at (2 ^ k) p)
bit_at_joined m k p e = ap (λ (x : ℕ). bit_at x p) (sym (or_single m k e)) ∙ bit_at_or m (2 ^ k) p

-- outside its indices a mask has no bit
pub run_mask-lacks : (b : ℕ) (at : ℕ → ℕ) (p : Permutes b at) (from n : ℕ) → from + n ≤ b → (j : ℕ) → j < b → (j < from) ⊎ (from + n ≤ j) → bit_at (run_mask at from n) (at j) ≡ 0
run_mask-lacks b at p from zero fits j h out = ap (λ (x : ℕ). bit_at x (at j)) (run_mask-none at from) ∙ bit_at-zero (at j)
run_mask-lacks b at p from (suc n) fits j h out =
    let new : from + n < b = omega arith in
    let free : bit_at (run_mask at from n) (at (from + n)) ≡ 0 = run_mask-lacks b at p from n (omega arith) (from + n) new (inr (omega arith)) in
    let out' : (j < from) ⊎ (from + n ≤ j) = ⊎_elim (λ l. inl l) (λ g. inr (omega arith)) out in
    let there = run_mask-lacks b at p from n (omega arith) j h out' in
    let other : j ≢ from + n = ⊎_elim (λ l. λ e. omega arith) (λ g. λ e. omega arith) out in
    let apart : at j ≢ at (from + n) = λ e. other (p.apart j (from + n) h new e) in
    let high = bit_at-pow_other (at (from + n)) (at j) apart in
    rw (← add-one, run_mask-more at from n) (bit_at_joined _ _ _ free ∙ omega (arith, there, high))

-- within its indices it has them all
pub run_mask-has : (b : ℕ) (at : ℕ → ℕ) (p : Permutes b at) (from n : ℕ) → from + n ≤ b → (j : ℕ) → from ≤ j → j < from + n → bit_at (run_mask at from n) (at j) ≡ 1
run_mask-has b at p from zero fits j low high = absurd (omega arith)
run_mask-has b at p from (suc n) fits j low high =
    let new : from + n < b = omega arith in
    let free : bit_at (run_mask at from n) (at (from + n)) ≡ 0 = run_mask-lacks b at p from n (omega arith) (from + n) new (inr (omega arith)) in
    let old-bit = bit_at-lt (run_mask at from n) (at j) in
    let new-bit = bit_at-lt (2 ^ at (from + n)) (at j) in
    let bit-is : max (bit_at (run_mask at from n) (at j)) (bit_at (2 ^ at (from + n)) (at j)) ≡ 1 =
    ⊎_elim
    (λ e. let one = bit_at-pow_same (at (from + n)) ∙ ap (λ (x : ℕ). 1) e in
    let here : bit_at (2 ^ at (from + n)) (at j) ≡ 1 = rw e (bit_at-pow_same (at (from + n))) in omega (arith, here))
    (λ ne. let below : j < from + n = omega arith in
    let there = run_mask-has b at p from n (omega arith) j low below in omega (arith, there))
    (cases_eq j (from + n)) in
    subst (λ (k : ℕ). bit_at (run_mask at from k) (at j) ≡ 1) (add-one n) (rw (run_mask-more at from n) (bit_at_joined _ _ _ free ∙ bit-is))

pub run_mask-below : (b : ℕ) (at : ℕ → ℕ) (p : Permutes b at) (from n : ℕ) → from + n ≤ b → run_mask at from n < 2 ^ b
run_mask-below b at p from zero fits = rw (run_mask-none at from) (pow_pos b)
run_mask-below b at p from (suc n) fits =
    let new : from + n < b = omega arith in
    let free : bit_at (run_mask at from n) (at (from + n)) ≡ 0 = run_mask-lacks b at p from n (omega arith) (from + n) new (inr (omega arith)) in
    let whole : bit_or (run_mask at from n) (2 ^ at (from + n)) < 2 ^ b = or_lt b _ _ (run_mask-below b at p from n (omega arith)) (pow_below _ _ (p.below (from + n) new)) in
    subst (λ (k : ℕ). run_mask at from k < 2 ^ b) (add-one n) (rw (run_mask-more at from n) (subst (λ (x : ℕ). x < 2 ^ b) (or_single _ _ free) whole))

-- the same of a mask by its two ends
pub mask_of-none : (at : ℕ → ℕ) (from : ℕ) → mask_of at from from ≡ 0
mask_of-none at from = mask_of-run at from from ∙ rw (sub_self from) (run_mask-none at from)

pub mask_of-more : (at : ℕ → ℕ) (from i : ℕ) → from ≤ i → mask_of at from (i + 1) ≡ mask_of at from i + 2 ^ at i
mask_of-more at from i le =
    let n : ℕ = i - from in
    let long : i + 1 - from ≡ n + 1 = omega arith in
    let last : from + n ≡ i = omega arith in
    mask_of-run at from (i + 1) ∙ ap (run_mask at from) long ∙ run_mask-more at from n ∙ (rw last (rw (mask_of-run at from i) refl))

pub mask_of-lacks : (b : ℕ) (at : ℕ → ℕ) (p : Permutes b at) (from to : ℕ) → from ≤ to → to ≤ b → (j : ℕ) → j < b → (j < from) ⊎ (to ≤ j) → bit_at (mask_of at from to) (at j) ≡ 0
mask_of-lacks b at p from to le fits j h out =
    rw (mask_of-run at from to) (run_mask-lacks b at p from (to - from) (omega arith) j h (⊎_elim (λ l. inl l) (λ g. inr (omega arith)) out))

pub mask_of-has : (b : ℕ) (at : ℕ → ℕ) (p : Permutes b at) (from to : ℕ) → to ≤ b → (j : ℕ) → from ≤ j → j < to → bit_at (mask_of at from to) (at j) ≡ 1
mask_of-has b at p from to fits j low high =
    rw (mask_of-run at from to) (run_mask-has b at p from (to - from) (omega arith) j low (omega arith))

pub mask_of-below : (b : ℕ) (at : ℕ → ℕ) (p : Permutes b at) (from to : ℕ) → from ≤ to → to ≤ b → mask_of at from to < 2 ^ b
mask_of-below b at p from to le fits = rw (mask_of-run at from to) (run_mask-below b at p from (to - from) (omega arith))

-- a loop that adds the next index by an `or`
pub mask_of-step : (b : ℕ) (at : ℕ → ℕ) (p : Permutes b at) (from i : ℕ) → from ≤ i → i < b → bit_or (mask_of at from i) (2 ^ at i) ≡ mask_of at from (i + 1)
mask_of-step b at p from i le new =
    or_single _ _ (mask_of-lacks b at p from i le (omega arith) i new (inr (omega arith))) ∙ sym (mask_of-more at from i le)

-- ---- masks as runs of ones, whose numbers are 2 ^ to - 2 ^ from

one_less : (x y : ℕ) → (x - 1) * y ≡ x * y - y
one_less x y = let swapped = mul_comm (x - 1) y in let whole = mul_comm x y in let apart = mul-sub y x 1 in omega arith

-- all ones, moved down until n are left, and up to the bit `from`
pub ones_moved : (b from to : ℕ) → from ≤ to → to ≤ b → ((2 ^ b - 1) / 2 ^ (b - (to - from)) * 2 ^ from) % 2 ^ b ≡ 2 ^ to - 2 ^ from
ones_moved b from to le fits =
    let n : ℕ = to - from in
    let left : b - (b - n) ≡ n = omega arith in
    let some = pow_pos n in
    let small : 2 ^ n - 1 < 2 ^ n = omega arith in
    let end : n + from ≡ to = omega arith in
    ap (λ (x : ℕ). (x * 2 ^ from) % 2 ^ b) (ones_shr b (b - n) (omega arith) ∙ ap (λ (k : ℕ). 2 ^ k - 1) left)
    ∙ shl_whole (2 ^ n - 1) n from b small (omega arith)
    ∙ one_less (2 ^ n) (2 ^ from)
    ∙ ap (λ (x : ℕ). x - 2 ^ from) (sym (pow-add 2 n from) ∙ ap (λ (k : ℕ). 2 ^ k) end)

-- a run of ones fits its width
run_below : (b from to : ℕ) → to ≤ b → 2 ^ to - 2 ^ from < 2 ^ b
run_below b from to fits =
    let below = pow-le-pow_right {n = 2} (lit< tt) fits in
    let some = pow_pos from in
    let top = pow_pos b in
    omega arith

-- a number that has the bits of the indices where a run of ones has the bits of their numbers
pub mask_of-is : (b : ℕ) (at : ℕ → ℕ) (p : Permutes b at) (from to m : ℕ) → from ≤ to → to ≤ b → m < 2 ^ b
    → ((i : ℕ) → i < b → bit_at m (at i) ≡ bit_at (2 ^ to - 2 ^ from) i) → m ≡ mask_of at from to
mask_of-is b at p from to m le fits small each =
    same_from_bits_below b m (mask_of at from to) small (mask_of-below b at p from to le fits) (λ place h.
    let found = Permutes-onto b at p place h in
    let i = found.0 in
    let same : bit_at m (at i) ≡ bit_at (mask_of at from to) (at i) =
    each i found.1 ∙
    ⊎_elim
    (λ before. bit_at_mask_below from to i before ∙ sym (mask_of-lacks b at p from to le fits i found.1 (inl before)))
    (λ low. ⊎_elim
    (λ high. bit_at_mask_inside from to i low high ∙ sym (mask_of-has b at p from to fits i low high))
    (λ after. bit_at_mask_above from to i after ∙ sym (mask_of-lacks b at p from to le fits i found.1 (inr after)))
    (cases_lt i to))
    (cases_lt i from) in
    subst (λ (q : ℕ). bit_at m q ≡ bit_at (mask_of at from to) q) found.2 same)

-- the least significant bit first
pub mask_of-lsb0 : (b : ℕ) → IsWidth b → (from to : ℕ) → from ≤ to → to ≤ b → 2 ^ to - 2 ^ from ≡ mask_of (λ i. i) from to
mask_of-lsb0 b w from to le fits = mask_of-is b _ (lsb0_permutes b w) from to _ le fits (run_below b from to fits) (λ i h. refl)

-- the most significant bit first
pub mask_of-msb0 : (b : ℕ) → IsWidth b → (from to : ℕ) → from ≤ to → to ≤ b → 2 ^ (b - from) - 2 ^ (b - to) ≡ mask_of (λ i. b - 1 - i) from to
mask_of-msb0 b w from to le fits =
    mask_of-is b _ (msb0_permutes b w) from to _ le fits (run_below b (b - to) (b - from) (omega arith)) (λ i h.
    ⊎_elim
    (λ before. bit_at_mask_above (b - to) (b - from) (b - 1 - i) (omega arith) ∙ sym (bit_at_mask_below from to i before))
    (λ low. ⊎_elim
    (λ high. bit_at_mask_inside (b - to) (b - from) (b - 1 - i) (omega arith) (omega arith) ∙ sym (bit_at_mask_inside from to i low high))
    (λ after. bit_at_mask_below (b - to) (b - from) (b - 1 - i) (omega arith) ∙ sym (bit_at_mask_above from to i after))
    (cases_lt i to))
    (cases_lt i from))

-- ---- counting by a mask
ones_of_bit : (c : ℕ) → c < 2 → count_ones c ≡ c
unfolding ones
ones_of_bit zero h = refl
ones_of_bit (suc zero) h = refl
ones_of_bit (suc (suc c)) h = absurd (omega arith)

-- a number's ones, apart at bit k
ones_at : (x k : ℕ) → count_ones x ≡ count_ones (x / 2 ^ (1 + k)) + (bit_at x k + count_ones (x % 2 ^ k))
ones_at x k =
    let one-bit = ones_of_bit (bit_at x k) (bit_at-lt x k) in
    let high = ones_cat (1 + k) (x / 2 ^ (1 + k)) (x % 2 ^ (1 + k)) (mod_below x (2 ^ (1 + k)) (pow_pos (1 + k))) in
    let low = ones_cat k (bit_at x k) (x % 2 ^ k) (mod_below x (2 ^ k) (pow_pos k)) in
    let part : x % 2 ^ (1 + k) ≡ bit_at x k * 2 ^ k + x % 2 ^ k = mod-pow-add x 1 k in
    let apart = ap count_ones (sym (shr_split x (1 + k))) in
    let joined = ap count_ones part in
    omega (arith, apart, joined, high, low, one-bit)

power_above : (k : ℕ) → 2 ^ k / 2 ^ (1 + k) ≡ 0
power_above k = let h = pow_below k (1 + k) (omega arith) in let d = div_below (2 ^ k) (2 ^ (1 + k)) 1 (pow_pos (1 + k)) (omega arith) in omega arith

power_modulo : (k : ℕ) → 2 ^ k % 2 ^ k ≡ 0
power_modulo k = mod_self (2 ^ k)

-- a mask that has one bit more counts that bit
ones_with_bit : (v m k : ℕ) → bit_at m k ≡ 0 → count_ones (bit_and v (bit_or m (2 ^ k))) ≡ count_ones (bit_and v m) + bit_at v k
ones_with_bit v m k free =
    let wide = bit_or m (2 ^ k) in
    let same_high : bit_and v wide / 2 ^ (1 + k) ≡ bit_and v m / 2 ^ (1 + k) =
    rw (and_shr v wide (1 + k), and_shr v m (1 + k), or_shr m (2 ^ k) (1 + k), power_above k, or_zero_r (m / 2 ^ (1 + k))) refl in
    let same_low : bit_and v wide % 2 ^ k ≡ bit_and v m % 2 ^ k =
    rw (and_mod v wide k, and_mod v m k, or_mod m (2 ^ k) k, power_modulo k, or_zero_r (m % 2 ^ k)) refl in
    let one = bit_at-pow_same k in
    let small = bit_at-lt v k in
    let here : bit_at (bit_and v wide) k ≡ bit_at v k =
    let a = bit_at_and v wide k in let o = bit_at_or m (2 ^ k) k in omega arith in
    let gone : bit_at (bit_and v m) k ≡ 0 = let a = bit_at_and v m k in omega arith in
    let before = ones_at (bit_and v m) k in
    let after = ones_at (bit_and v wide) k in
    let h = ap count_ones same_high in
    let l = ap count_ones same_low in
    omega arith

bit_counted : (c : ℕ) → c < 2 → cond (c == 1) 1 0 ≡ c
bit_counted zero h = refl
bit_counted (suc zero) h = refl
bit_counted (suc (suc c)) h = absurd (omega arith)

-- the ones of an element behind a mask are those of the mask's indices
pub run_mask-count : (b : ℕ) (at : ℕ → ℕ) (p : Permutes b at) (v from n : ℕ) → from + n ≤ b → count_ones (bit_and v (run_mask at from n)) ≡ count_by (λ (x : Bool). x) (map (λ i. bit_at v (at i) == 1) (range_with_len from n))
unfolding ones
run_mask-count b at p v from zero fits = rw (run_mask-none at from, and_zero_r v) refl
run_mask-count b at p v from (suc n) fits =
    let new : from + n < b = omega arith in
    let free : bit_at (run_mask at from n) (at (from + n)) ≡ 0 = run_mask-lacks b at p from n (omega arith) (from + n) new (inr (omega arith)) in
    let grown : run_mask at from (n + 1) ≡ bit_or (run_mask at from n) (2 ^ at (from + n)) =
    run_mask-more at from n ∙ sym (or_single _ _ free) in
    let rest = run_mask-count b at p v from n (omega arith) in
    let step = sum_by-map-range_with_len_more (λ (x : Bool). cond x 1 0) (λ i. bit_at v (at i) == 1) from n (from + n) refl in
    let last = bit_counted (bit_at v (at (from + n))) (bit_at-lt v (at (from + n))) in
    let more = ones_with_bit v (run_mask at from n) (at (from + n)) free in
    subst (λ (k : ℕ). count_ones (bit_and v (run_mask at from k)) ≡ count_by (λ (x : Bool). x) (map (λ i. bit_at v (at i) == 1) (range_with_len from k)))
    (add-one n) (rw grown (omega (arith, more, rest, step, last)))

pub mask_of-count : (b : ℕ) (at : ℕ → ℕ) (p : Permutes b at) (v from to : ℕ) → from ≤ to → to ≤ b → count_ones (bit_and v (mask_of at from to)) ≡ count_by (λ (x : Bool). x) (map (λ i. bit_at v (at i) == 1) (range_with_len from (to - from)))
mask_of-count b at p v from to le fits = rw (mask_of-run at from to) (run_mask-count b at p v from (to - from) (omega arith))
