-- The ones of a word: how many they are, and what they are without the lowest.
use Rattle.std.specs.Prelude.{◌≡◌, ◌≢◌, ℕ, ◌+◌, ◌-◌, ◌^◌, ◌<◌, ◌≤◌, ◌==◌, zero, suc, Bool, true, false, cond, List, [], ◌∷◌, ◌++◌, length, filter, count_ones, map, bit_and, refl}
use Rattle.std.specs.Int.{bit_at, trailing_zeros, w64}
use Rattle.std.specs.List.{range_with_len}
use Rattle.std.specs.Simd.Lanes.{mask_l}
use Rattle.std.proofs.Common.{arith, sym, ◌∙◌, ap, ⊎_elim}
use Rattle.std.proofs.lemmas.Bool.{cases_eq}
use Rattle.std.proofs.lemmas.List.{length-map}
use Rattle.std.proofs.lemmas.List.Elements.{filter-append}
use Rattle.std.proofs.lemmas.List.FromFn.{get_or-map-range_with_len, length-range_with_len}
use Rattle.std.proofs.lemmas.List.Sums.{count_by-le-length, length-filter}
use Rattle.std.proofs.lemmas.Nat.Bits.{bit_at-lt, bit_at-trailing_zeros, bit_at-zero, same_from_bits_below}
use Rattle.std.proofs.lemmas.Simd.{bit_mask_l, mask_l-lt, ones-mask_l}
use Rattle.bitvec_base.specs.ListsLaws.{range_with_len-add}
use Rattle.bitvec_places.specs.WordOnes.{word_ones}
use Rattle.bitvec_places.proofs.PlacesLaws.{filter-none}
use Rattle.bitvec_places.proofs.LowestLemmas.{lowest-cleared, lowest-others}

abbrev is_set : ℕ → ℕ → Bool
is_set word i = bit_at word i == 1

-- ---- their number

bit_of : (c : ℕ) → c < 2 → cond (c == 1) 1 0 ≡ c
bit_of zero h = refl
bit_of (suc zero) h = refl
bit_of (suc (suc c)) h = absurd (omega arith)

masked : (word : ℕ) → word < 2 ^ 64 → mask_l (map (is_set word) (range_with_len 0 64)) ≡ word
masked word fits =
    let bits = map (is_set word) (range_with_len 0 64) in
    let long : length bits ≡ 64 = length-map (range_with_len 0 64) (is_set word) ∙ length-range_with_len 0 64 in
    let below : mask_l bits < 2 ^ 64 = rw long at (mask_l-lt bits) in
    same_from_bits_below 64 (mask_l bits) word below fits (λ i inside.
    let place : 0 + i ≡ i = omega arith in
    bit_mask_l bits i
    ∙ ap (λ (bit : Bool). cond bit 1 0) (get_or-map-range_with_len (is_set word) 0 64 i i false inside place)
    ∙ bit_of (bit_at word i) (bit_at-lt word i))

pub ones-count : (word : ℕ) → word < 2 ^ 64 → length (word_ones word) ≡ count_ones word
unfolding word_ones
ones-count word fits =
    length-filter (is_set word) (range_with_len 0 64) ∙ sym (ones-mask_l (is_set word) (range_with_len 0 64)) ∙ ap count_ones (masked word fits)

pub ones-most : (word : ℕ) → length (word_ones word) ≤ 64
unfolding word_ones
ones-most word =
    let count = length-filter (is_set word) (range_with_len 0 64) in
    let most = count_by-le-length (is_set word) (range_with_len 0 64) in
    let all = length-range_with_len 0 64 in
    omega arith

-- ---- the lowest of them

clear : (word i : ℕ) → bit_at word i ≡ 0 → is_set word i ≡ false
clear word i none = ap (λ (n : ℕ). n == 1) none

pub filter-same : (p q : ℕ → Bool) (a n : ℕ) → ((k : ℕ) → k < n → p (a + k) ≡ q (a + k)) → filter p (range_with_len a n) ≡ filter q (range_with_len a n)
filter-same p q a zero same = refl
filter-same p q a (suc n) same =
    let first : a + 0 ≡ a = omega arith in
    let here : p a ≡ q a = ap p (sym first) ∙ same 0 (omega arith) ∙ ap q first in
    let rest = filter-same p q (a + 1) n (λ k h. let next : a + 1 + k ≡ a + (k + 1) = omega arith in ap p next ∙ same (k + 1) (omega arith) ∙ ap q (sym next)) in
    rw here (ap (λ (l : List ℕ). cond (q a) (a ∷ l) l) rest)

ones-from : (word f : ℕ) → f ≤ 64 → ((i : ℕ) → i < f → bit_at word i ≡ 0) → word_ones word ≡ filter (is_set word) (range_with_len f (64 - f))
unfolding word_ones
ones-from word f low none =
    let all : 64 ≡ f + (64 - f) = omega arith in
    let start : 0 + f ≡ f = omega arith in
    ap (λ (n : ℕ). filter (is_set word) (range_with_len 0 n)) all
    ∙ ap (filter (is_set word)) (range_with_len-add 0 f (64 - f))
    ∙ filter-append (is_set word) (range_with_len 0 f) (range_with_len (0 + f) (64 - f))
    ∙ ap (λ (l : List ℕ). l ++ filter (is_set word) (range_with_len (0 + f) (64 - f))) (filter-none (is_set word) 0 f (λ k h. let place : 0 + k ≡ k = omega arith in ap (is_set word) place ∙ clear word k (none k h)))
    ∙ ap (λ (a : ℕ). filter (is_set word) (range_with_len a (64 - f))) start

pub ones-none : (word : ℕ) → word ≡ 0 → word_ones word ≡ []
unfolding word_ones
ones-none word none =
    filter-none (is_set word) 0 64 (λ k h. clear word (0 + k) (ap (λ (n : ℕ). bit_at n (0 + k)) none ∙ bit_at-zero (0 + k)))

pub ones-lowest : (word : ℕ) → word ≢ 0 → word < 2 ^ 64 → word_ones word ≡ trailing_zeros w64 word ∷ word_ones (bit_and word (word - 1))
ones-lowest word some fits =
    let f = trailing_zeros w64 word in
    let rest = bit_and word (word - 1) in
    let lowest = bit_at-trailing_zeros w64 word (omega arith) fits in
    let below = lowest.0 in
    let gone = lowest-cleared word f lowest.1 lowest.2 in
    let others = lowest-others word f lowest.1 lowest.2 in
    let more : 64 - f ≡ suc (64 - (f + 1)) = omega arith in
    let here : is_set word f ≡ true = ap (λ (n : ℕ). n == 1) lowest.1 in
    let behind = filter-same (is_set word) (is_set rest) (f + 1) (64 - (f + 1)) (λ k h. ap (λ (n : ℕ). n == 1) (sym (others (f + 1 + k) (omega arith)))) in
    let none = λ (i : ℕ) (h : i < f + 1). ⊎_elim (λ (same : i ≡ f). rw same gone) (λ (apart : i ≢ f). others i apart ∙ lowest.2 i (omega arith)) (cases_eq i f) in
    ones-from word f (omega arith) lowest.2
    ∙ ap (λ (n : ℕ). filter (is_set word) (range_with_len f n)) more
    ∙ ap (λ (set : Bool). cond set (f ∷ filter (is_set word) (range_with_len (f + 1) (64 - (f + 1)))) (filter (is_set word) (range_with_len (f + 1) (64 - (f + 1))))) here
    ∙ ap (λ (l : List ℕ). f ∷ l) (behind ∙ sym (ones-from rest (f + 1) (omega arith) none))
