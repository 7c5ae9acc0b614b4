-- Two lists of bits, compared bit by bit.
use Rattle.std.specs.Prelude.{◌≡◌, ◌≢◌, ℕ, ◌+◌, ◌-◌, ◌<◌, ◌≤◌, min, Bool, true, false, List, [], ◌∷◌, length, drop, slice_index_or, slice_range, refl, zero, suc}
use Rattle.std.specs.Bool.{beq}
use Rattle.std.specs.Cmp.{nat_cmp_is}
use Rattle.std.specs.Cmp.Lexicographic.{slice_cmp, unequal}
use Rattle.std.specs.Ordering.{bool_cmp, nat_cmp, ordering_then}
use Rattle.std.proofs.Common.{arith, sym, ◌∙◌, ap, ⊎_elim, subst, Ordering, Less, Greater}
use Rattle.std.proofs.lemmas.Bool.{cases_lt}
use Rattle.std.proofs.lemmas.Bool.Decides.{nat_tests}
use Rattle.std.proofs.lemmas.List.{same_lists, get_or_default}
use Rattle.bitvec_base.specs.Lists.{same_bits, differs}
use Rattle.bitvec_base.specs.ListsLaws.{same_bits-decides}
use Rattle.bitvec_base.specs.WriteLaws.{get-slice_range}

-- two lists agree below an index
abbrev pub SameBelow : List Bool → List Bool → ℕ → Type 0
SameBelow a b n = (k : ℕ) → k < n → slice_index_or a k false ≡ slice_index_or b k false

-- an equal stretch more
pub same-stretch : (a b : List Bool) (n m : ℕ) → SameBelow a b n → same_bits (slice_range a n m) (slice_range b n m) ≡ true → SameBelow a b m
same-stretch a b n m before told k h =
    ⊎_elim (λ below. before k below)
    (λ behind.
    let same = (same_bits-decides (slice_range a n m) (slice_range b n m)).0 told in
    let place : n + (k - n) ≡ k = omega arith in
    subst (λ (i : ℕ). slice_index_or a i false ≡ slice_index_or b i false) place
    (sym (get-slice_range a n m (k - n) false (omega arith))
    ∙ ap (λ (l : List Bool). slice_index_or l (k - n) false) same
    ∙ get-slice_range b n m (k - n) false (omega arith)))
    (cases_lt k n)

-- what a test of two bits has told
pub differs-apart : (x y : Bool) → differs x y ≡ true → x ≢ y
differs-apart false false told e = absurd cc
differs-apart false true told e = absurd cc
differs-apart true false told e = absurd cc
differs-apart true true told e = absurd cc

-- ---- equality

-- Two lists of `n` bits that have the same bit at each place below `n` are equal by `same_bits`.
pub same-equal : (a b : List Bool) (n : ℕ) → length a ≡ n → length b ≡ n → SameBelow a b n → true ≡ same_bits a b
same-equal a b n a-long b-long same =
    sym ((same_bits-decides a b).1 (same_lists a b (omega arith) (λ k d inside.
    get_or_default a k d false inside ∙ same k (omega arith) ∙ get_or_default b k false d (omega arith))))

pub same-unequal : (a b : List Bool) {m n : ℕ} → length a ≡ m → length b ≡ n → m ≢ n → false ≡ same_bits a b
same-unequal a b a-long b-long apart = sym (unequal beq a b (λ e. apart (sym a-long ∙ e ∙ b-long)))

-- ---- order

first_decides : (x y : Bool) (rest : Ordering) → x ≢ y → bool_cmp x y ≡ ordering_then (bool_cmp x y) rest
first_decides false false rest differ = absurd (differ refl)
first_decides false true rest differ = refl
first_decides true false rest differ = refl
first_decides true true rest differ = absurd (differ refl)

same_passes : (x y : Bool) (rest : Ordering) → x ≡ y → ordering_then (bool_cmp x y) rest ≡ rest
same_passes false false rest same = refl
same_passes false true rest same = absurd cc
same_passes true false rest same = absurd cc
same_passes true true rest same = refl

same-tail : (x y : Bool) (a b : List Bool) (n : ℕ) → SameBelow (x ∷ a) (y ∷ b) (suc n) → SameBelow a b n
same-tail x y a b n same k h = same (suc k) (omega arith)

first_apart : (a b : List Bool) (i : ℕ) → i < length a → i < length b → SameBelow a b i → slice_index_or a i false ≢ slice_index_or b i false → bool_cmp (slice_index_or a i false) (slice_index_or b i false) ≡ slice_cmp bool_cmp a b
first_apart [] b i left right same differ = absurd (omega arith)
first_apart (x ∷ a) [] i left right same differ = absurd (omega arith)
first_apart (x ∷ a) (y ∷ b) zero left right same differ = first_decides x y _ differ
first_apart (x ∷ a) (y ∷ b) (suc i) left right same differ =
    first_apart a b i (omega arith) (omega arith) (same-tail x y a b i same) differ
    ∙ sym (same_passes x y _ (same 0 (omega arith)))

-- what is behind equal bits decides
pub order-behind : (a b : List Bool) (n : ℕ) → n ≤ length a → n ≤ length b → SameBelow a b n → slice_cmp bool_cmp (drop n a) (drop n b) ≡ slice_cmp bool_cmp a b
order-behind a b zero left right same = refl
order-behind [] b (suc n) left right same = absurd (omega arith)
order-behind (x ∷ a) [] (suc n) left right same = absurd (omega arith)
order-behind (x ∷ a) (y ∷ b) (suc n) left right same = order-behind a b n (omega arith) (omega arith) (same-tail x y a b n same) ∙ sym (same_passes x y _ (same 0 (omega arith)))

-- the first bits that differ decide
pub order-differ : (a b : List Bool) (i : ℕ) {x y : Bool} → i < length a → i < length b → SameBelow a b i → x ≡ slice_index_or a i false → y ≡ slice_index_or b i false → differs x y ≡ true → bool_cmp x y ≡ slice_cmp bool_cmp a b
order-differ a b i {x} {y} a-long b-long same left right told =
    rw (left, right) (first_apart a b i a-long b-long same (λ e. differs-apart x y told (left ∙ e ∙ sym right)))

longer_same : (m n : ℕ) → nat_cmp m n ≡ nat_cmp (suc m) (suc n)
longer_same m n = grind (arith, nat_tests)

lengths_decide : (a b : List Bool) → SameBelow a b (min (length a) (length b)) → nat_cmp (length a) (length b) ≡ slice_cmp bool_cmp a b
lengths_decide [] [] same = refl
lengths_decide [] (y ∷ b) same = sym (nat_cmp_is 0 (suc (length b)) Less (omega arith))
lengths_decide (x ∷ a) [] same = sym (nat_cmp_is (suc (length a)) 0 Greater (omega arith))
lengths_decide (x ∷ a) (y ∷ b) same =
    sym (longer_same (length a) (length b))
    ∙ lengths_decide a b (λ k h. same (suc k) (omega arith))
    ∙ sym (same_passes x y _ (same 0 (omega arith)))

-- where none differs, the lengths do
pub order-same : (a b : List Bool) {m n : ℕ} (i : ℕ) → length a ≡ m → length b ≡ n → min m n ≤ i → SameBelow a b i → nat_cmp m n ≡ slice_cmp bool_cmp a b
order-same a b i a-long b-long all same = rw (← a-long, ← b-long) (lengths_decide a b (λ k h. same k (omega arith)))
