-- The places of a bit in a list: each is below the length, they ascend, how many there are, and what an edit of the list makes of them.
use Rattle.std.specs.Prelude.{◌≡◌, ◌≢◌, ℕ, zero, suc, ◌+◌, ◌<◌, ◌≤◌, ◌==◌, nat_lt, Bool, true, false, cond, not, ◌&&◌, ◌||◌, Some, List, [], ◌∷◌, ◌++◌, length, map, take, filter, count_by, replicate, slice_index_or, slice_get, slice_set, refl}
use Rattle.std.specs.BTreeSet.{insert_key}
use Rattle.std.specs.Bool.{beq}
use Rattle.std.specs.List.{list_any, range_with_len}
use Rattle.std.specs.List.Sorted.{IsStrictlyIncreasing}
use Rattle.std.specs.Ordering.{nat_cmp}
use Rattle.std.specs.Cmp.{booleans_Decides}
use Rattle.std.specs.Set.{sorted_merge}
use Rattle.std.specs.declared.cmp.Ordering.TheVariants.{Less, Equal, Greater}
use Rattle.std.proofs.Common.{◌∙◌, ap, arith, sym, subst, ⊎_elim}
use Rattle.std.proofs.lemmas.Bool.{cases_eq, eq-eqb, le-ltb, lt-ltb, ne_eqb}
use Rattle.std.proofs.lemmas.List.{get_or-map, get_or-set_other, get_or-set_same, length-map, length-set, take-map}
use Rattle.std.proofs.lemmas.List.Sums.{sum_by-cons}
use Rattle.bitvec_base.specs.Counts.{ones_of, zeros_of}
use Rattle.bitvec_base.specs.CountedLaws.{ones-flipped}
use Rattle.bitvec_base.specs.ListsLaws.{get-combined, length-combined}
use Rattle.bitvec_base.specs.Lists.{combined, differs, places_of}
use Rattle.bitvec_words.specs.Operator.{operator}
use Rattle.bitvec_words.specs.declared.operator.BitOp.TheVariants.{Or, Xor}
use Rattle.bitvec.specs.Operators.{and_not_of, and_of, or_of, xor_of}

-- ---- by recursion

-- It lists the numbers of the bits that are 1, where the first bit has the number `from`.
abbrev ones_from : ℕ → List Bool → List ℕ
ones_from from [] = []
ones_from from (bit ∷ bits) = cond bit (from ∷ ones_from (from + 1) bits) (ones_from (from + 1) bits)

-- It tells of each bit whether it is the wanted one.
abbrev marks : Bool → List Bool → List Bool
marks wanted bits = map (λ bit. beq bit wanted) bits

marks-one : (bits : List Bool) → marks true bits ≡ bits
marks-one [] = refl
marks-one (true ∷ bits) = ap (λ (l : List Bool). true ∷ l) (marks-one bits)
marks-one (false ∷ bits) = ap (λ (l : List Bool). false ∷ l) (marks-one bits)

marks-zero : (bits : List Bool) → marks false bits ≡ map not bits
marks-zero [] = refl
marks-zero (true ∷ bits) = ap (λ (l : List Bool). false ∷ l) (marks-zero bits)
marks-zero (false ∷ bits) = ap (λ (l : List Bool). true ∷ l) (marks-zero bits)

filter-ones : (test : ℕ → Bool) (from : ℕ) (bits : List Bool) → ((i : ℕ) → i < length bits → test (from + i) ≡ slice_index_or bits i false)
    → filter test (range_with_len from (length bits)) ≡ ones_from from bits
filter-ones test from [] same = refl
filter-ones test from (bit ∷ bits) same =
    let here : from + 0 ≡ from = omega arith in
    let is : test from ≡ bit = ap test (sym here) ∙ same 0 (omega arith) in
    let rest = filter-ones test (from + 1) bits (λ i h. let next : from + 1 + i ≡ from + suc i = omega arith in ap test next ∙ same (suc i) (omega arith)) in
    rw (is, rest) refl

places-are : (wanted : Bool) (bits : List Bool) → places_of wanted bits ≡ ones_from 0 (marks wanted bits)
unfolding places_of
places-are wanted bits =
    let test : ℕ → Bool = λ i. beq (slice_index_or bits i false) wanted in
    let long : length bits ≡ length (marks wanted bits) = sym (length-map bits (λ bit. beq bit wanted)) in
    ap (λ (n : ℕ). filter test (range_with_len 0 n)) long
    ∙ filter-ones test 0 (marks wanted bits) (λ i h.
    let same : 0 + i ≡ i = omega arith in
    ap (λ (k : ℕ). beq (slice_index_or bits k false) wanted) same
    ∙ sym (get_or-map (λ (bit : Bool). beq bit wanted) bits i false false (omega (arith, long))))

ones-are : (bits : List Bool) → places_of true bits ≡ ones_from 0 bits
ones-are bits = places-are true bits ∙ ap (ones_from 0) (marks-one bits)

-- The places of the zeros are those of the ones after each bit was flipped.
pub places-flipped : (bits : List Bool) → places_of true (map not bits) ≡ places_of false bits
places-flipped bits = ones-are (map not bits) ∙ ap (ones_from 0) (sym (marks-zero bits)) ∙ sym (places-are false bits)

-- An empty list has no places of a bit.
pub places-nil : (wanted : Bool) → places_of wanted [] ≡ []
places-nil wanted = places-are wanted []

ones-shift : (from more : ℕ) (bits : List Bool) → ones_from (from + more) bits ≡ map (λ place. from + place) (ones_from more bits)
ones-shift from more [] = refl
ones-shift from more (true ∷ bits) =
    let next : from + more + 1 ≡ from + (more + 1) = omega arith in
    rw next (ap (λ (l : List ℕ). (from + more) ∷ l) (ones-shift from (more + 1) bits))
ones-shift from more (false ∷ bits) =
    let next : from + more + 1 ≡ from + (more + 1) = omega arith in rw next (ones-shift from (more + 1) bits)

ones-append : (from : ℕ) (xs ys : List Bool) → ones_from from (xs ++ ys) ≡ ones_from from xs ++ ones_from (from + length xs) ys
ones-append from [] ys = let same : from + 0 ≡ from = omega arith in rw same refl
ones-append from (true ∷ xs) ys =
    let next : from + 1 + length xs ≡ from + suc (length xs) = omega arith in
    ap (λ (l : List ℕ). from ∷ l) (ones-append (from + 1) xs ys ∙ ap (λ (n : ℕ). ones_from (from + 1) xs ++ ones_from n ys) next)
ones-append from (false ∷ xs) ys =
    let next : from + 1 + length xs ≡ from + suc (length xs) = omega arith in
    ones-append (from + 1) xs ys ∙ ap (λ (n : ℕ). ones_from (from + 1) xs ++ ones_from n ys) next

-- A bit in front moves the places behind it on by one, and has the place 0 if it is the wanted one.
pub places-cons : (wanted bit : Bool) (bits : List Bool)
    → places_of wanted (bit ∷ bits) ≡ cond (beq bit wanted) (0 ∷ map (λ place. 1 + place) (places_of wanted bits)) (map (λ place. 1 + place) (places_of wanted bits))
places-cons wanted bit bits =
    places-are wanted (bit ∷ bits)
    ∙ ap (λ (l : List ℕ). cond (beq bit wanted) (0 ∷ l) l) (ones-shift 1 0 (marks wanted bits) ∙ ap (map (λ (place : ℕ). 1 + place)) (sym (places-are wanted bits)))

marks-append : (wanted : Bool) (xs ys : List Bool) → marks wanted (xs ++ ys) ≡ marks wanted xs ++ marks wanted ys
marks-append wanted [] ys = refl
marks-append wanted (x ∷ xs) ys = ap (λ (l : List Bool). beq x wanted ∷ l) (marks-append wanted xs ys)

-- The places in two joined lists are those in the first, and then those in the second behind its length.
pub places-append : (wanted : Bool) (xs ys : List Bool) → places_of wanted (xs ++ ys) ≡ places_of wanted xs ++ map (λ place. length xs + place) (places_of wanted ys)
places-append wanted xs ys =
    let long : 0 + length (marks wanted xs) ≡ length xs + 0 = let same = length-map xs (λ (bit : Bool). beq bit wanted) in omega arith in
    places-are wanted (xs ++ ys) ∙ ap (ones_from 0) (marks-append wanted xs ys)
    ∙ ones-append 0 (marks wanted xs) (marks wanted ys)
    ∙ ap (λ (n : ℕ). ones_from 0 (marks wanted xs) ++ ones_from n (marks wanted ys)) long
    ∙ ap (λ (l : List ℕ). ones_from 0 (marks wanted xs) ++ l) (ones-shift (length xs) 0 (marks wanted ys))
    ∙ rw (← places-are wanted xs, ← places-are wanted ys) refl

-- ---- each place, and how many there are

-- `place`, which comes `k`-th, is the number of a 1 that has `k` ones before it.
record IsOne (from : ℕ) (bits : List Bool) (k place : ℕ) : Type 0 where
  i : ℕ
  is : place ≡ from + i
  inside : i < length bits
  bit : slice_index_or bits i false ≡ true
  count : ones_of (take i bits) ≡ k

more : (bit : Bool) (bits : List Bool) (i : ℕ) → ones_of (take (suc i) (bit ∷ bits)) ≡ cond bit 1 0 + ones_of (take i bits)
more bit bits i = sum_by-cons (λ (bit : Bool). cond bit 1 0) bit (take i bits)

one-later : (bit : Bool) (from : ℕ) (bits : List Bool) (k place : ℕ) → IsOne (from + 1) bits k place → IsOne from (bit ∷ bits) (cond bit 1 0 + k) place
one-later bit from bits k place one = record {
  i = suc one.i;
  is = omega (arith, one.is);
  inside = omega (arith, one.inside);
  bit = one.bit;
  count = more bit bits one.i ∙ ap (λ (n : ℕ). cond bit 1 0 + n) one.count;
}

one-at : (from : ℕ) (bits : List Bool) (k d : ℕ) → k < length (ones_from from bits) → IsOne from bits k (slice_index_or (ones_from from bits) k d)
one-at from [] k d h = absurd (omega arith)
one-at from (true ∷ bits) zero d h = record { i = 0; is = omega arith; inside = omega arith; bit = refl; count = refl }
one-at from (true ∷ bits) (suc k) d h =
    let same : 1 + k ≡ suc k = omega arith in
    subst (λ (n : ℕ). IsOne from (true ∷ bits) n (slice_index_or (ones_from (from + 1) bits) k d)) same (one-later true from bits k _ (one-at (from + 1) bits k d (omega arith)))
one-at from (false ∷ bits) k d h =
    let same : 0 + k ≡ k = omega arith in
    subst (λ (n : ℕ). IsOne from (false ∷ bits) n (slice_index_or (ones_from (from + 1) bits) k d)) same (one-later false from bits k _ (one-at (from + 1) bits k d h))

place-at : (wanted : Bool) (bits : List Bool) (k d : ℕ) → k < length (places_of wanted bits) → IsOne 0 (marks wanted bits) k (slice_index_or (places_of wanted bits) k d)
place-at wanted bits k d h =
    let are = places-are wanted bits in
    subst (λ (l : List ℕ). IsOne 0 (marks wanted bits) k (slice_index_or l k d)) (sym are) (one-at 0 (marks wanted bits) k d (let same = ap (λ (l : List ℕ). length l) are in omega arith))

-- Each place of a bit is below the length of the list.
pub places-below : (wanted : Bool) (bits : List Bool) (k d : ℕ) → k < length (places_of wanted bits) → slice_index_or (places_of wanted bits) k d < length bits
places-below wanted bits k d h =
    let one = place-at wanted bits k d h in
    let long = length-map bits (λ (bit : Bool). beq bit wanted) in
    let is = one.is in
    let inside = one.inside in omega arith

-- The bit at each place of a bit is that bit.
pub places-bit : (wanted : Bool) (bits : List Bool) (k d : ℕ) → k < length (places_of wanted bits) → slice_index_or bits (slice_index_or (places_of wanted bits) k d) false ≡ wanted
places-bit wanted bits k d h =
    let one = place-at wanted bits k d h in
    let long = length-map bits (λ (bit : Bool). beq bit wanted) in
    let place : slice_index_or (places_of wanted bits) k d ≡ one.i = let is = one.is in omega arith in
    ap (λ (i : ℕ). slice_index_or bits i false) place
    ∙ (booleans_Decides (slice_index_or bits one.i false) wanted).0
    (sym (get_or-map (λ (bit : Bool). beq bit wanted) bits one.i false false (let inside = one.inside in omega arith)) ∙ one.bit)

ones-low : (from : ℕ) (bits : List Bool) (k d : ℕ) → k < length (ones_from from bits) → from ≤ slice_index_or (ones_from from bits) k d
ones-low from bits k d h = let is = (one-at from bits k d h).is in omega arith

ones-ascend : (from : ℕ) (bits : List Bool) (k m d : ℕ) → k < m → m < length (ones_from from bits) → slice_index_or (ones_from from bits) k d < slice_index_or (ones_from from bits) m d
ones-ascend from [] k m d order h = absurd (omega arith)
ones-ascend from (true ∷ bits) k zero d order h = absurd (omega arith)
ones-ascend from (true ∷ bits) zero (suc m) d order h = let low = ones-low (from + 1) bits m d (omega arith) in omega arith
ones-ascend from (true ∷ bits) (suc k) (suc m) d order h = ones-ascend (from + 1) bits k m d (omega arith) (omega arith)
ones-ascend from (false ∷ bits) k m d order h = ones-ascend (from + 1) bits k m d order h

-- Of two places of a bit, the one that comes first in their list is the lower.
pub places-ordered : (wanted : Bool) (bits : List Bool) (k m d : ℕ) → k < m → m < length (places_of wanted bits)
    → slice_index_or (places_of wanted bits) k d < slice_index_or (places_of wanted bits) m d
places-ordered wanted bits k m d order h =
    let are = places-are wanted bits in
    subst (λ (l : List ℕ). slice_index_or l k d < slice_index_or l m d) (sym are)
    (ones-ascend 0 (marks wanted bits) k m d order (let same = ap (λ (l : List ℕ). length l) are in omega arith))

-- The places of a bit ascend.
pub places-ascend : (wanted : Bool) (bits : List Bool) → IsStrictlyIncreasing (places_of wanted bits)
places-ascend wanted bits k h = places-ordered wanted bits k (k + 1) 0 (omega arith) h

ones-length : (from : ℕ) (bits : List Bool) → length (ones_from from bits) ≡ ones_of bits
ones-length from [] = refl
ones-length from (true ∷ bits) =
    let rest = ones-length (from + 1) bits in
    let one = sum_by-cons (λ (bit : Bool). cond bit 1 0) true bits in omega arith
ones-length from (false ∷ bits) =
    let rest = ones-length (from + 1) bits in
    let none = sum_by-cons (λ (bit : Bool). cond bit 1 0) false bits in omega arith

-- A list has as many places of ones as `count_ones` tells.
pub length-places : (bits : List Bool) → length (places_of true bits) ≡ ones_of bits
length-places bits = ap (λ (l : List ℕ). length l) (ones-are bits) ∙ ones-length 0 bits

-- A list has as many places of zeros as `count_zeros` tells.
pub length-zero_places : (bits : List Bool) → length (places_of false bits) ≡ zeros_of bits
length-zero_places bits = ap (λ (l : List ℕ). length l) (sym (places-flipped bits)) ∙ length-places (map not bits) ∙ ones-flipped bits

ones-none : (from : ℕ) (bits : List Bool) → list_any (λ bit. bit) bits ≡ false → ones_from from bits ≡ []
ones-none from [] none = refl
ones-none from (true ∷ bits) none = absurd cc
ones-none from (false ∷ bits) none = ones-none (from + 1) bits none

-- Where no bit is 1, there are no places of ones.
pub places-none : (bits : List Bool) → list_any (λ bit. bit) bits ≡ false → places_of true bits ≡ []
places-none bits none = ones-are bits ∙ ones-none 0 bits none

-- A list of zeros has no places of ones.
pub places-zeros : (n : ℕ) → places_of true (replicate n false) ≡ []
places-zeros n = places-none (replicate n false) (zeros n)
  where
    zeros : (n : ℕ) → list_any (λ bit. bit) (replicate n false) ≡ false
    zeros zero = refl
    zeros (suc n) = zeros n

ones-all : (from n : ℕ) → ones_from from (replicate n true) ≡ range_with_len from n
ones-all from zero = refl
ones-all from (suc n) = ap (λ (l : List ℕ). from ∷ l) (ones-all (from + 1) n)

-- In a list of `n` ones, each number below `n` is a place.
pub places-ones : (n : ℕ) → places_of true (replicate n true) ≡ range_with_len 0 n
places-ones n = ones-are (replicate n true) ∙ ones-all 0 n

-- ---- which numbers are places, and how many are below one

ones-lack : (n from : ℕ) (bits : List Bool) → n < from → list_any (λ place. place == n) (ones_from from bits) ≡ false
ones-lack n from [] low = refl
ones-lack n from (true ∷ bits) low = rw (ne_eqb from n (λ same. omega arith)) (ones-lack n (from + 1) bits (omega arith))
ones-lack n from (false ∷ bits) low = ones-lack n (from + 1) bits (omega arith)

ones-have : (from : ℕ) (bits : List Bool) (i n : ℕ) → n ≡ from + i → list_any (λ place. place == n) (ones_from from bits) ≡ slice_index_or bits i false
ones-have from [] i n is = refl
ones-have from (true ∷ bits) zero n is = rw (eq-eqb from n (omega arith)) refl
ones-have from (false ∷ bits) zero n is = ones-lack n (from + 1) bits (omega arith)
ones-have from (true ∷ bits) (suc i) n is = rw (ne_eqb from n (λ same. omega arith)) (ones-have (from + 1) bits i n (omega arith))
ones-have from (false ∷ bits) (suc i) n is = ones-have (from + 1) bits i n (omega arith)

-- A bit is 1 exactly if its index is among the places of the ones.
pub places-have : (bits : List Bool) (k : ℕ) → slice_index_or bits k false ≡ list_any (λ place. place == k) (places_of true bits)
places-have bits k = sym (ap (list_any (λ (place : ℕ). place == k)) (ones-are bits) ∙ ones-have 0 bits k k (omega arith))

below-none : (n from : ℕ) (bits : List Bool) → n ≤ from → count_by (λ place. nat_lt place n) (ones_from from bits) ≡ 0
below-none n from [] low = refl
below-none n from (true ∷ bits) low =
    let rest = below-none n (from + 1) bits (omega arith) in
    let first = sum_by-cons (λ (place : ℕ). cond (nat_lt place n) 1 0) from (ones_from (from + 1) bits) in
    let no = le-ltb from n low in
    first ∙ rw (no, rest) refl
below-none n from (false ∷ bits) low = below-none n (from + 1) bits (omega arith)

below-count : (from : ℕ) (bits : List Bool) (i n : ℕ) → n ≡ from + i → count_by (λ place. nat_lt place n) (ones_from from bits) ≡ ones_of (take i bits)
below-count from [] zero n is = refl
below-count from [] (suc i) n is = refl
below-count from (bit ∷ bits) zero n is = below-none n from (bit ∷ bits) (omega arith)
below-count from (true ∷ bits) (suc i) n is =
    let rest = below-count (from + 1) bits i n (omega arith) in
    let first = sum_by-cons (λ (place : ℕ). cond (nat_lt place n) 1 0) from (ones_from (from + 1) bits) in
    let yes = lt-ltb from n (omega arith) in
    first ∙ ap (λ (b : Bool). cond b 1 0 + count_by (λ place. nat_lt place n) (ones_from (from + 1) bits)) yes ∙ ap (λ (c : ℕ). 1 + c) rest ∙ sym (more true bits i)
below-count from (false ∷ bits) (suc i) n is =
    let none : ones_of (take i bits) ≡ 0 + ones_of (take i bits) = omega arith in
    below-count (from + 1) bits i n (omega arith) ∙ none ∙ sym (more false bits i)

-- Among the first `k` bits there are as many ones as places of ones are below `k`.
pub places-count : (bits : List Bool) (k : ℕ) → ones_of (take k bits) ≡ count_by (λ place. nat_lt place k) (places_of true bits)
places-count bits k = sym (ap (count_by (λ (place : ℕ). nat_lt place k)) (ones-are bits) ∙ below-count 0 bits k k (omega arith))

-- ---- the one that comes k-th

got : (xs : List ℕ) (k x : ℕ) → slice_get xs k ≡ Some x → (k < length xs) × (slice_index_or xs k 0 ≡ x)
got [] k x is = absurd cc
got (y ∷ ys) zero x is = (omega arith, cc)
got (y ∷ ys) (suc k) x is = let rest = got ys k x is in (omega (arith, rest.0), rest.1)

-- The place that comes `k`-th is below the length of the list.
pub nth-below : (wanted : Bool) (bits : List Bool) (k i : ℕ) → slice_get (places_of wanted bits) k ≡ Some i → i < length bits
nth-below wanted bits k i is =
    let at = got (places_of wanted bits) k i is in
    let below = places-below wanted bits k 0 at.0 in
    let same = at.1 in omega arith

-- The bit at the place that comes `k`-th is the one that was looked for.
pub nth-bit : (wanted : Bool) (bits : List Bool) (k i : ℕ) → slice_get (places_of wanted bits) k ≡ Some i → slice_index_or bits i false ≡ wanted
nth-bit wanted bits k i is =
    let at = got (places_of wanted bits) k i is in
    ap (λ (n : ℕ). slice_index_or bits n false) (sym at.1) ∙ places-bit wanted bits k 0 at.0

-- Before the 1 that comes `k`-th there are `k` ones.
pub nth-count : (bits : List Bool) (k i : ℕ) → slice_get (places_of true bits) k ≡ Some i → ones_of (take i bits) ≡ k
nth-count bits k i is =
    let at = got (ones_from 0 bits) k i (ap (λ (l : List ℕ). slice_get l k) (sym (ones-are bits)) ∙ is) in
    let one = one-at 0 bits k 0 at.0 in
    let place : i ≡ one.i = let is = one.is in let same = at.1 in omega arith in
    ap (λ (n : ℕ). ones_of (take n bits)) place ∙ one.count

-- Below the place that comes `k`-th there are `k` places.
pub nth-rank : (bits : List Bool) (k i : ℕ) → slice_get (places_of true bits) k ≡ Some i → count_by (λ place. nat_lt place i) (places_of true bits) ≡ k
nth-rank bits k i is = sym (places-count bits i) ∙ nth-count bits k i is

ones-nth : (from : ℕ) (bits : List Bool) (i : ℕ) → slice_index_or bits i false ≡ true → slice_get (ones_from from bits) (ones_of (take i bits)) ≡ Some (from + i)
ones-nth from [] i is = absurd cc
ones-nth from (true ∷ bits) zero is = ap Some (let same : from ≡ from + 0 = omega arith in same)
ones-nth from (false ∷ bits) zero is = absurd cc
ones-nth from (true ∷ bits) (suc i) is =
    let next : from + 1 + i ≡ from + suc i = omega arith in
    let one : 1 + ones_of (take i bits) ≡ suc (ones_of (take i bits)) = omega arith in
    ap (slice_get (ones_from from (true ∷ bits))) (more true bits i ∙ one) ∙ ones-nth (from + 1) bits i is ∙ ap Some next
ones-nth from (false ∷ bits) (suc i) is =
    let next : from + 1 + i ≡ from + suc i = omega arith in
    let none : 0 + ones_of (take i bits) ≡ ones_of (take i bits) = omega arith in
    ap (slice_get (ones_from (from + 1) bits)) (more false bits i ∙ none) ∙ ones-nth (from + 1) bits i is ∙ ap Some next

-- A bit that is 1 comes as many places behind the first 1 as there are ones before it.
pub nth-place : (bits : List Bool) (i : ℕ) → slice_index_or bits i false ≡ true → slice_get (places_of true bits) (ones_of (take i bits)) ≡ Some i
nth-place bits i is = ap (λ (l : List ℕ). slice_get l (ones_of (take i bits))) (ones-are bits) ∙ ones-nth 0 bits i is ∙ ap Some (let same : 0 + i ≡ i = omega arith in same)

zeros-take : (bits : List Bool) (k : ℕ) → ones_of (take k (map not bits)) ≡ zeros_of (take k bits)
zeros-take bits k = ap (λ (l : List Bool). ones_of l) (take-map not k bits) ∙ ones-flipped (take k bits)

-- Among the first `k` bits there are as many zeros as places of zeros are below `k`.
pub zero_places-count : (bits : List Bool) (k : ℕ) → zeros_of (take k bits) ≡ count_by (λ place. nat_lt place k) (places_of false bits)
zero_places-count bits k = sym (zeros-take bits k) ∙ places-count (map not bits) k ∙ ap (count_by (λ (place : ℕ). nat_lt place k)) (places-flipped bits)

-- Before the 0 that comes `k`-th there are `k` zeros.
pub nth_zero-count : (bits : List Bool) (k i : ℕ) → slice_get (places_of false bits) k ≡ Some i → zeros_of (take i bits) ≡ k
nth_zero-count bits k i is = sym (zeros-take bits i) ∙ nth-count (map not bits) k i (ap (λ (l : List ℕ). slice_get l k) (places-flipped bits) ∙ is)

-- A bit that is 0 comes as many places behind the first 0 as there are zeros before it.
pub nth_zero-place : (bits : List Bool) (i : ℕ) → i < length bits → slice_index_or bits i false ≡ false → slice_get (places_of false bits) (zeros_of (take i bits)) ≡ Some i
nth_zero-place bits i below is =
    ap (λ (l : List ℕ). slice_get l (zeros_of (take i bits))) (sym (places-flipped bits))
    ∙ ap (slice_get (places_of true (map not bits))) (sym (zeros-take bits i))
    ∙ nth-place (map not bits) i (get_or-map not bits i false false below ∙ ap not is)

-- ---- after edits of the list

cmp-less : (x y : ℕ) → x < y → nat_cmp x y ≡ Less
cmp-less x y h = rw (lt-ltb x y h) refl

cmp-equal : (x y : ℕ) → x ≡ y → nat_cmp x y ≡ Equal
cmp-equal x y same = rw (le-ltb x y (omega arith), eq-eqb x y same) refl

cmp-greater : (x y : ℕ) → y < x → nat_cmp x y ≡ Greater
cmp-greater x y h = rw (le-ltb x y (omega arith), ne_eqb x y (λ same. omega arith)) refl

insert-first : (n from : ℕ) (bits : List Bool) → n < from → insert_key nat_cmp (ones_from from bits) n ≡ n ∷ ones_from from bits
insert-first n from [] low = refl
insert-first n from (true ∷ bits) low = rw (cmp-less n from low) refl
insert-first n from (false ∷ bits) low = insert-first n (from + 1) bits (omega arith)

ones-set : (from : ℕ) (bits : List Bool) (i n : ℕ) → n ≡ from + i → i < length bits → ones_from from (slice_set bits i true) ≡ insert_key nat_cmp (ones_from from bits) n
ones-set from [] i n is h = absurd (omega arith)
ones-set from (true ∷ bits) zero n is h = rw (cmp-equal n from (omega arith)) refl
ones-set from (false ∷ bits) zero n is h =
    let same : from ≡ n = omega arith in
    ap (λ (k : ℕ). k ∷ ones_from (from + 1) bits) same ∙ sym (insert-first n (from + 1) bits (omega arith))
ones-set from (true ∷ bits) (suc i) n is h =
    rw (cmp-greater n from (omega arith)) (ap (λ (l : List ℕ). from ∷ l) (ones-set (from + 1) bits i n (omega arith) (omega arith)))
ones-set from (false ∷ bits) (suc i) n is h = ones-set (from + 1) bits i n (omega arith) (omega arith)

-- A bit that is set to 1 has its place among those of the ones, in their order.
pub places-set : (bits : List Bool) (i : ℕ) → i < length bits → places_of true (slice_set bits i true) ≡ insert_key nat_cmp (places_of true bits) i
places-set bits i h =
    ones-are (slice_set bits i true) ∙ ones-set 0 bits i i (omega arith) h ∙ ap (λ (l : List ℕ). insert_key nat_cmp l i) (sym (ones-are bits))

kept-cons : (test : ℕ → Bool) (from : ℕ) (bit new : Bool) (places kept : List ℕ) → new ≡ (bit && test from) → kept ≡ filter test places
    → cond new (from ∷ kept) kept ≡ filter test (cond bit (from ∷ places) places)
kept-cons test from false new places kept is rest = rw (is, rest) refl
kept-cons test from true new places kept is rest = rw (is, rest) refl

ones-kept : (test : ℕ → Bool) (from : ℕ) (bits new : List Bool) → length new ≡ length bits
    → ((i : ℕ) → i < length bits → slice_index_or new i false ≡ (slice_index_or bits i false && test (from + i))) → ones_from from new ≡ filter test (ones_from from bits)
ones-kept test from [] [] long each = refl
ones-kept test from [] (n ∷ new) long each = absurd (omega arith)
ones-kept test from (bit ∷ bits) [] long each = absurd (omega arith)
ones-kept test from (bit ∷ bits) (n ∷ new) long each =
    let here : from + 0 ≡ from = omega arith in
    kept-cons test from bit n (ones_from (from + 1) bits) (ones_from (from + 1) new)
    (each 0 (omega arith) ∙ ap (λ (k : ℕ). bit && test k) here)
    (ones-kept test (from + 1) bits new (omega arith) (λ i h.
    let next : from + suc i ≡ from + 1 + i = omega arith in
    each (suc i) (omega arith) ∙ ap (λ (k : ℕ). slice_index_or bits i false && test k) next))

-- Where the ones that fail a test were cleared, those places of ones are left that pass it.
pub places-kept : (test : ℕ → Bool) (bits new : List Bool) → length new ≡ length bits → ((i : ℕ) → i < length bits → slice_index_or new i false ≡ (slice_index_or bits i false && test i))
    → places_of true new ≡ filter test (places_of true bits)
places-kept test bits new long each =
    ones-are new
    ∙ ones-kept test 0 bits new long (λ i h. each i h ∙ ap (λ (k : ℕ). slice_index_or bits i false && test k) (let same : i ≡ 0 + i = omega arith in same))
    ∙ ap (filter test) (sym (ones-are bits))

and-true : (b : Bool) → b ≡ (b && true)
and-true true = refl
and-true false = refl

and-false : (b : Bool) → false ≡ (b && false)
and-false true = refl
and-false false = refl

-- A bit that is set to 0 has no place among those of the ones.
pub places-cleared : (bits : List Bool) (i : ℕ) → places_of true (slice_set bits i false) ≡ filter (λ place. not (place == i)) (places_of true bits)
places-cleared bits i =
    places-kept (λ place. not (place == i)) bits (slice_set bits i false) (length-set bits i false) (λ k h. ⊎_elim
    (λ (here : k ≡ i).
    ap (λ (n : ℕ). slice_index_or (slice_set bits i false) n false) here ∙ get_or-set_same bits i false false (omega arith)
    ∙ and-false (slice_index_or bits k false) ∙ ap (λ (b : Bool). slice_index_or bits k false && not b) (sym (eq-eqb k i here)))
    (λ (other : k ≢ i).
    get_or-set_other bits i k false false other
    ∙ and-true (slice_index_or bits k false) ∙ ap (λ (b : Bool). slice_index_or bits k false && not b) (sym (ne_eqb k i other)))
    (cases_eq k i))

-- ---- of two lists combined

-- Where the bits of two lists are 1 in both, those places of the first list's ones are left whose bit in the other is 1.
pub places-and : (bits other : List Bool) → places_of true (and_of bits other) ≡ filter (λ place. slice_index_or other place false) (places_of true bits)
places-and bits other =
    places-kept (λ place. slice_index_or other place false) bits (and_of bits other) (length-combined _ bits other)
    (λ i h. get-combined _ bits other i false h)

-- Where the ones of another list were cleared, those places of ones are left whose bit in the other is 0.
pub places-and_not : (bits other : List Bool) → places_of true (and_not_of bits other) ≡ filter (λ place. not (slice_index_or other place false)) (places_of true bits)
places-and_not bits other =
    places-kept (λ place. not (slice_index_or other place false)) bits (and_not_of bits other) (length-combined _ bits other)
    (λ i h. get-combined _ bits other i false h)

-- A place is kept if one of the two bits is 1; if each is, `both` says so.
abbrev joins : Bool → Bool → Bool → Bool
joins both bit other = cond bit (cond other both true) other

merge-nil : (both : Bool) (xs : List ℕ) → xs ≡ sorted_merge nat_cmp both xs []
merge-nil both [] = refl
merge-nil both (x ∷ xs) = refl

merge-first : (both : Bool) (n : ℕ) (xs : List ℕ) (from : ℕ) (bits : List Bool) → n < from
    → n ∷ sorted_merge nat_cmp both xs (ones_from from bits) ≡ sorted_merge nat_cmp both (n ∷ xs) (ones_from from bits)
merge-first both n xs from [] low = ap (λ (l : List ℕ). n ∷ l) (sym (merge-nil both xs))
merge-first both n xs from (true ∷ bits) low = rw (cmp-less n from low) refl
merge-first both n xs from (false ∷ bits) low = merge-first both n xs (from + 1) bits (omega arith)

merge-second : (both : Bool) (n : ℕ) (ys : List ℕ) (from : ℕ) (bits : List Bool) → n < from
    → n ∷ sorted_merge nat_cmp both (ones_from from bits) ys ≡ sorted_merge nat_cmp both (ones_from from bits) (n ∷ ys)
merge-second both n ys from [] low = refl
merge-second both n ys from (true ∷ bits) low = rw (cmp-greater from n low) refl
merge-second both n ys from (false ∷ bits) low = merge-second both n ys (from + 1) bits (omega arith)

merge-both : (both : Bool) (n : ℕ) (xs ys : List ℕ)
    → cond both (n ∷ sorted_merge nat_cmp both xs ys) (sorted_merge nat_cmp both xs ys) ≡ sorted_merge nat_cmp both (n ∷ xs) (n ∷ ys)
merge-both both n xs ys = rw (cmp-equal n n refl) refl

merge-next : (both bit other new : Bool) (from : ℕ) (bits others : List Bool) (rest : List ℕ) → new ≡ joins both bit other
    → rest ≡ sorted_merge nat_cmp both (ones_from (from + 1) bits) (ones_from (from + 1) others)
    → cond new (from ∷ rest) rest ≡ sorted_merge nat_cmp both (ones_from from (bit ∷ bits)) (ones_from from (other ∷ others))
merge-next both true true new from bits others rest is same =
    rw (is, same) (merge-both both from (ones_from (from + 1) bits) (ones_from (from + 1) others))
merge-next both true false new from bits others rest is same =
    rw (is, same) (merge-first both from (ones_from (from + 1) bits) (from + 1) others (omega arith))
merge-next both false true new from bits others rest is same =
    rw (is, same) (merge-second both from (ones_from (from + 1) others) (from + 1) bits (omega arith))
merge-next both false false new from bits others rest is same = rw (is, same) refl

ones-merged : (both : Bool) (from : ℕ) (bits others new : List Bool) → length new ≡ length bits → length others ≤ length bits
    → ((i : ℕ) → i < length bits → slice_index_or new i false ≡ joins both (slice_index_or bits i false) (slice_index_or others i false))
    → ones_from from new ≡ sorted_merge nat_cmp both (ones_from from bits) (ones_from from others)
ones-merged both from [] [] [] long short each = refl
ones-merged both from [] [] (n ∷ new) long short each = absurd (omega arith)
ones-merged both from [] (other ∷ others) new long short each = absurd (omega arith)
ones-merged both from (bit ∷ bits) others [] long short each = absurd (omega arith)
ones-merged both from (bit ∷ bits) [] (n ∷ new) long short each =
    merge-next both bit false n from bits [] (ones_from (from + 1) new) (each 0 (omega arith))
    (ones-merged both (from + 1) bits [] new (omega arith) (omega arith) (λ i h. each (suc i) (omega arith)))
ones-merged both from (bit ∷ bits) (other ∷ others) (n ∷ new) long short each =
    merge-next both bit other n from bits others (ones_from (from + 1) new) (each 0 (omega arith))
    (ones-merged both (from + 1) bits others new (omega arith) (omega arith) (λ i h. each (suc i) (omega arith)))

places-merged : (both : Bool) (f : Bool → Bool → Bool) → ((bit other : Bool) → f bit other ≡ joins both bit other) → (bits other : List Bool) → length other ≤ length bits
    → places_of true (combined f bits other) ≡ sorted_merge nat_cmp both (places_of true bits) (places_of true other)
places-merged both f is bits other short =
    ones-are (combined f bits other)
    ∙ ones-merged both 0 bits other (combined f bits other) (length-combined f bits other) short (λ i h.
    get-combined f bits other i false h ∙ is (slice_index_or bits i false) (slice_index_or other i false))
    ∙ ap (λ (l : List ℕ). sorted_merge nat_cmp both l (ones_from 0 other)) (sym (ones-are bits))
    ∙ ap (λ (l : List ℕ). sorted_merge nat_cmp both (places_of true bits) l) (sym (ones-are other))

-- Where the bits of two lists are 1 in one of them, the places of the ones are those of both lists, merged.
pub places-or : (bits other : List Bool) → length other ≤ length bits
    → places_of true (or_of bits other) ≡ sorted_merge nat_cmp true (places_of true bits) (places_of true other)
places-or bits other short = places-merged true (operator Or) same bits other short
  where
    same : (bit other : Bool) → (bit || other) ≡ joins true bit other
    same true true = refl
    same true false = refl
    same false other = refl

-- Where the bits of two lists differ, the places of the ones are those of both lists, merged without those that both have.
pub places-xor : (bits other : List Bool) → length other ≤ length bits
    → places_of true (xor_of bits other) ≡ sorted_merge nat_cmp false (places_of true bits) (places_of true other)
places-xor bits other short = places-merged false (operator Xor) same bits other short
  where
    same : (bit other : Bool) → differs bit other ≡ joins false bit other
    same true true = refl
    same true false = refl
    same false true = refl
    same false false = refl
