-- The bits of two lists index by index, 64 at a time as words.
use Rattle.std.specs.Prelude.{◌≡◌, ◌≢◌, ℕ, ◌+◌, ◌-◌, ◌<◌, ◌≤◌, ◌==◌, min, Bool, true, false, ◌&&◌, List, length, count_by, count_ones, ◌^◌, replicate, slice_index_or, slice_range, refl}
use Rattle.std.proofs.Common.{arith, rules, sym, ◌∙◌, ap, ⊎_elim, length-append}
use Rattle.std.proofs.Math.ListN.{get_or-eq_default}
use Rattle.std.proofs.lemmas.Bool.{cases_lt}
use Rattle.std.proofs.lemmas.Bool.Decides.{nat_tests}
use Rattle.std.proofs.lemmas.List.{length-replicate, places, same_lists}
use Rattle.std.proofs.lemmas.Nat.{zero_from_ones}
use Rattle.bitvec_base.specs.CountLaws.{count-join, ones_within}
use Rattle.bitvec_base.specs.Lists.{combined, differs}
use Rattle.bitvec_base.specs.ListsLaws.{combined-is, get-combined, length-combined}
use Rattle.bitvec_base.specs.Memory.{element_bits}
use Rattle.bitvec_base.specs.Order.{Permutes}
use Rattle.bitvec_base.specs.SliceLaws.{range-all, range-none}
use Rattle.bitvec_base.specs.WriteLaws.{length-slice_range}
use Rattle.bitvec_store.specs.Width.{IsWidth}
use Rattle.bitvec_words.specs.CombinedLaws.{combined-range}
use Rattle.bitvec_words.specs.ShortWindow.{padded}
use Rattle.bitvec_few.proofs.FewLemmas.{word-ones}
use Rattle.bitvec_checked.specs.Pairs.{looks_for, only_first}
use Rattle.bitvec_checked.specs.declared.pairs.Pair.{Pair}
use Rattle.bitvec_checked.specs.declared.pairs.Pair.TheVariants.{Both, Differing, First}

-- ---- two bits

pub no_pair : (pair : Pair) → looks_for pair false false ≡ false
no_pair Both = refl
no_pair Differing = refl
no_pair First = refl

differs-both : (x y : Bool) → differs x (x && y) ≡ only_first x y
differs-both true true = refl
differs-both true false = refl
differs-both false true = refl
differs-both false false = refl

pub only_first-is : (list other : List Bool) → combined differs list (combined ◌&&◌ list other) ≡ combined only_first list other
only_first-is list other =
    combined-is only_first list other (combined differs list (combined ◌&&◌ list other)) (length-combined differs list _) (λ k inside.
    get-combined differs list (combined ◌&&◌ list other) k false inside
    ∙ ap (differs (slice_index_or list k false)) (get-combined ◌&&◌ list other k false inside)
    ∙ differs-both (slice_index_or list k false) (slice_index_or other k false))

-- ---- zeros behind two lists

length-padded : (b : ℕ) (list : List Bool) → length list ≤ b → length (padded b list) ≡ b
unfolding padded
length-padded b list short = let zeros = length-replicate (b - length list) false in omega (arith, length-append list (replicate (b - length list) false), zeros)

get-padded : (b : ℕ) (list : List Bool) (k : ℕ) → slice_index_or (padded b list) k false ≡ slice_index_or list k false
unfolding padded
get-padded b list k = grind (arith, places)

get-pair : (f : Bool → Bool → Bool) (list other : List Bool) (k : ℕ) → f false false ≡ false → length other ≤ length list → slice_index_or (combined f list other) k false ≡ f (slice_index_or list k false) (slice_index_or other k false)
get-pair f list other k none short =
    let long = length-combined f list other in
    ⊎_elim
    (λ (below : k < length list). get-combined f list other k false below)
    (λ (past : length list ≤ k).
    let left : slice_index_or list k false ≡ false = get_or-eq_default list false past in
    let right : slice_index_or other k false ≡ false = get_or-eq_default other false (omega arith) in
    rw (left, right) (get_or-eq_default (combined f list other) false (omega (arith, long)) ∙ sym none))
    (cases_lt k (length list))

combined-both : (f : Bool → Bool → Bool) (b : ℕ) (list other : List Bool) → f false false ≡ false → length other ≤ length list → length list ≤ b → combined f (padded b list) (padded b other) ≡ padded b (combined f list other)
combined-both f b list other none short fits =
    let left = length-padded b list fits in
    let made = length-padded b (combined f list other) (let long = length-combined f list other in omega (arith, long)) in
    sym (combined-is f (padded b list) (padded b other) (padded b (combined f list other)) (made ∙ sym left) (λ k inside.
    get-padded b (combined f list other) k ∙ get-pair f list other k none short
    ∙ ap (λ (x : Bool). f x (slice_index_or other k false)) (sym (get-padded b list k))
    ∙ ap (f (slice_index_or (padded b list) k false)) (sym (get-padded b other k))))

-- ---- words

range-short : (ys : List Bool) (from to r : ℕ) → r ≡ length ys → from ≤ to → slice_range ys (min from r) (min to r) ≡ slice_range ys from to
range-short ys from to r long order = same_lists _ _ (search (rules, places)) (λ k d inside. grind (arith, places))

length-range-most : (ys : List Bool) (from to : ℕ) → length (slice_range ys from to) ≤ to - from
length-range-most ys from to = grind (arith, places)

-- the word that two words of the same stretch give
pub word-pairs : (at : ℕ → ℕ → ℕ) (f : Bool → Bool → Bool) (list other : List Bool) (from to e v w made : ℕ) → f false false ≡ false → e ≡ length other → from ≤ to → to ≤ length list → to ≤ from + 64
    → element_bits 64 at v ≡ padded 64 (slice_range list from to) → element_bits 64 at w ≡ padded 64 (slice_range other (min from e) (min to e))
    → element_bits 64 at made ≡ combined f (element_bits 64 at v) (element_bits 64 at w) → element_bits 64 at made ≡ padded 64 (slice_range (combined f list other) from to)
word-pairs at f list other from to e v w made none end order inside few left right is =
    let long = length-slice_range list from to inside in
    let short = length-range-most other from to in
    is ∙ ap (λ (l : List Bool). combined f l (element_bits 64 at w)) left
    ∙ ap (combined f (padded 64 (slice_range list from to))) (right ∙ ap (padded 64) (range-short other from to e end order))
    ∙ combined-both f 64 (slice_range list from to) (slice_range other from to) none (omega (arith, long, short)) (omega (arith, long))
    ∙ ap (padded 64) (sym (combined-range f list other from to order inside))

-- ---- the ones of stretches

pub ones-among : (list : List Bool) (from to : ℕ) → from ≤ to → to ≤ length list → count_by (λ (bit : Bool). bit) (slice_range list from to) ≤ count_by (λ (bit : Bool). bit) list
ones-among list from to order inside =
    let first = count-join list 0 from to (omega arith) order inside in
    let both = count-join list 0 to (length list) (omega arith) inside (omega arith) in
    let all = ap (λ (l : List Bool). count_by (λ (bit : Bool). bit) l) (range-all list (length list) (omega arith)) in
    omega (arith, first, both, all)

-- a word's are counted
pub ones-more : (at : ℕ → ℕ → ℕ) → ((b : ℕ) → IsWidth b → Permutes b (at b)) → (list : List Bool) (from to v ones : ℕ) → from ≤ to → to ≤ length list → v < 2 ^ 64 → element_bits 64 at v ≡ padded 64 (slice_range list from to)
    → ones ≡ count_by (λ (bit : Bool). bit) (slice_range list 0 from) → ones + count_ones v ≡ count_by (λ (bit : Bool). bit) (slice_range list 0 to)
ones-more at permutes list from to v ones order inside small held before =
    let here = word-ones at permutes v (slice_range list from to) small held in
    let both = count-join list 0 from to (omega arith) order inside in
    omega (arith, here, both)

pub ones-most : (list : List Bool) (to : ℕ) → to ≤ length list → count_by (λ (bit : Bool). bit) (slice_range list 0 to) ≤ length list
ones-most list to inside =
    let some = ones-among list 0 to (omega arith) inside in
    let all = ones_within list {n = length list} {ones = count_by (λ (bit : Bool). bit) list} refl refl in
    omega (arith, some, all)

pub ones-start : (list : List Bool) → count_by (λ (bit : Bool). bit) (slice_range list 0 0) ≡ 0
ones-start list = ap (λ (l : List Bool). count_by (λ (bit : Bool). bit) l) (range-none list 0 0 (omega arith))

pub ones-end : (list : List Bool) (to : ℕ) → to ≡ length list → count_by (λ (bit : Bool). bit) (slice_range list 0 to) ≡ count_by (λ (bit : Bool). bit) list
ones-end list to all = ap (λ (l : List Bool). count_by (λ (bit : Bool). bit) l) (range-all list to (omega arith))

-- ---- none, or a word with one

none-at : (n m : ℕ) → n ≤ m → n ≢ 0 → false ≡ (m == 0)
none-at n m fits some = let above : 0 < m = omega (arith, some) in grind (arith, nat_tests)

pub pair-found : (at : ℕ → ℕ → ℕ) → ((b : ℕ) → IsWidth b → Permutes b (at b)) → (list : List Bool) (from to v : ℕ) → from ≤ to → to ≤ length list → v < 2 ^ 64 → element_bits 64 at v ≡ padded 64 (slice_range list from to) → v ≢ 0
    → false ≡ (count_by (λ (bit : Bool). bit) list == 0)
pair-found at permutes list from to v order inside small held some =
    let here = word-ones at permutes v (slice_range list from to) small held in
    let among = ones-among list from to order inside in
    none-at (count_ones v) (count_by (λ (bit : Bool). bit) list) (omega (arith, here, among)) (λ none. some (zero_from_ones v none))

pub pair-none : (list : List Bool) (from : ℕ) → from ≡ length list → count_by (λ (bit : Bool). bit) (slice_range list 0 from) ≡ 0 → true ≡ (count_by (λ (bit : Bool). bit) list == 0)
pair-none list from all none = ap (λ (n : ℕ). n == 0) (sym none ∙ ones-end list from all)
