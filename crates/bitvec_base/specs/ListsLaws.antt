-- How the words on lists of bits are found bit by bit.
use Rattle.std.specs.Prelude.{◌≡◌, ◌≢◌, ℕ, ◌+◌, ◌-◌, ◌<◌, ◌≤◌, zero, suc, Bool, true, false, Option, Some, None, List, [], ◌∷◌, ◌++◌, length, take, drop, filter, slice_get, slice_index_or, slice_range, refl}
use Rattle.std.specs.Bool.{Decides, beq}
use Rattle.std.specs.List.{list_any, last_or, range_with_len}
use Rattle.std.specs.Cmp.{booleans_Decides}
use Rattle.std.proofs.Common.{arith, ◌∙◌, ap}
use Rattle.std.proofs.lemmas.Bool.{le-leb, lt-leb, and_left, false_from_ne_true}
use Rattle.std.proofs.lemmas.List.Elements.{filter-append}
use Rattle.std.proofs.lemmas.List.FromFn.{length-range_with_len, get_or-range_with_len, length-map-range_with_len, get_or-map-range_with_len, fill_by_all}
use Rattle.std.proofs.lemmas.List.Recursion.{or_from_places, or_at}
use Rattle.std.proofs.lemmas.Slice.Eq.{slice_eq-Decides}
use Rattle.bitvec_base.specs.Lists.{same_bits, is_prefix, is_suffix, stands_at, stands_in, combined, places_of, first_place, last_place}

-- ---- equal bits, and parts

-- `same_bits` is true of two lists exactly if they are equal.
pub same_bits-decides : (a b : List Bool) → Decides (same_bits a b) (a ≡ b)
same_bits-decides a b = slice_eq-Decides booleans_Decides a b (same_bits a b) refl

-- A list doesn't begin with a part that is longer than it.
pub is_prefix-long : (part list : List Bool) → length list < length part → is_prefix part list ≡ false
unfolding is_prefix
is_prefix-long part list h = and_left _ _ (lt-leb _ _ h)

-- A list begins with a part that is no longer exactly if its first bits, as many as the part has, are the part's.
pub is_prefix-fits : (part list : List Bool) → length part ≤ length list → is_prefix part list ≡ same_bits (take (length part) list) part
unfolding is_prefix
is_prefix-fits part list h = let fits = le-leb _ _ h in rw fits refl

-- A list doesn't end with a part that is longer than it.
pub is_suffix-long : (part list : List Bool) → length list < length part → is_suffix part list ≡ false
unfolding is_suffix
is_suffix-long part list h = and_left _ _ (lt-leb _ _ h)

-- A list ends with a part that is no longer exactly if its last bits, as many as the part has, are the part's.
pub is_suffix-fits : (part list : List Bool) → length part ≤ length list → is_suffix part list ≡ same_bits (drop (length list - length part) list) part
unfolding is_suffix
is_suffix-fits part list h = let fits = le-leb _ _ h in rw fits refl

-- A part doesn't stand at a place behind which fewer bits are left than it has.
pub stands_at-long : (part list : List Bool) (k : ℕ) → length list < k + length part → stands_at part list k ≡ false
unfolding stands_at
stands_at-long part list k h = and_left _ _ (lt-leb _ _ h)

-- A part that has room from place `k` on stands there exactly if the list's bits there are the part's.
pub stands_at-fits : (part list : List Bool) (k : ℕ) → k + length part ≤ length list → stands_at part list k ≡ same_bits (slice_range list k (k + length part)) part
unfolding stands_at
stands_at-fits part list k h = let fits = le-leb _ _ h in rw fits refl

-- A part that stands at some place of a list stands in the list.
pub stands_in-found : (part list : List Bool) (k : ℕ) → k ≤ length list → stands_at part list k ≡ true → stands_in part list ≡ true
unfolding stands_in
stands_in-found part list k h there =
    let n = length list + 1 in
    let inside : k < length (range_with_len 0 n) = omega (arith, length-range_with_len 0 n) in
    let place : slice_index_or (range_with_len 0 n) k 0 ≡ k = get_or-range_with_len 0 n k 0 (omega arith) ∙ omega arith in
    or_at (list_any (stands_at part list)) (stands_at part list) refl (λ _ _. refl) (range_with_len 0 n) k 0 inside (ap (stands_at part list) place ∙ there)

-- A part that stands at no place of a list doesn't stand in the list.
pub stands_in-none : (part list : List Bool) → ((k : ℕ) → k ≤ length list → stands_at part list k ≡ false) → stands_in part list ≡ false
unfolding stands_in
stands_in-none part list nowhere =
    let n = length list + 1 in
    or_from_places (list_any (stands_at part list)) (stands_at part list) refl (λ _ _. refl) (range_with_len 0 n) 0 (λ i h.
    let inside : i < n = omega (arith, length-range_with_len 0 n) in
    let place : slice_index_or (range_with_len 0 n) i 0 ≡ i = get_or-range_with_len 0 n i 0 inside ∙ omega arith in
    ap (stands_at part list) place ∙ nowhere i (omega arith))

-- ---- two lists, place by place

-- A combined list is as long as the first of its two lists.
pub length-combined : (f : Bool → Bool → Bool) (list other : List Bool) → length (combined f list other) ≡ length list
unfolding combined
length-combined f list other = length-map-range_with_len _ 0 (length list)

-- Bit `k` of a combined list is `f` of bit `k` of the first list and of the other.
pub get-combined : (f : Bool → Bool → Bool) (list other : List Bool) (k : ℕ) (d : Bool) → k < length list → slice_index_or (combined f list other) k d ≡ f (slice_index_or list k false) (slice_index_or other k false)
unfolding combined
get-combined f list other k d h = get_or-map-range_with_len (λ i. f (slice_index_or list i false) (slice_index_or other i false)) 0 (length list) k k d h (omega arith)

-- A list as long as the first one whose bit at each place is `f` of the two bits there is the combined list.
pub combined-is : (f : Bool → Bool → Bool) (list other new : List Bool) → length new ≡ length list → ((k : ℕ) → k < length list → slice_index_or new k false ≡ f (slice_index_or list k false) (slice_index_or other k false)) → new ≡ combined f list other
unfolding combined
combined-is f list other new long each = fill_by_all (λ i. f (slice_index_or list i false) (slice_index_or other i false)) new (length list) false long each

-- ---- places of a bit

-- The `n + m` numbers from `a` on are `n` numbers from `a` on, and then `m` from `a + n` on.
pub range_with_len-add : (a n m : ℕ) → range_with_len a (n + m) ≡ range_with_len a n ++ range_with_len (a + n) m
range_with_len-add a zero m =
    let from : a + 0 ≡ a = omega arith in let long : 0 + m ≡ m = omega arith in rw (from, long) refl
range_with_len-add a (suc n) m =
    let from : a + suc n ≡ a + 1 + n = omega arith in
    let long : suc n + m ≡ suc (n + m) = omega arith in
    rw (from, long) (ap (λ xs. a ∷ xs) (range_with_len-add (a + 1) n m))

filter-none : (p : ℕ → Bool) (a n : ℕ) → ((k : ℕ) → a ≤ k → k < a + n → p k ≡ false) → filter p (range_with_len a n) ≡ []
filter-none p a zero h = refl
filter-none p a (suc n) h =
    let here : p a ≡ false = h a (omega arith) (omega arith) in
    rw here (filter-none p (a + 1) n (λ k low high. h k (omega arith) (omega arith)))

-- the places around one that passes
filter-around : (p : ℕ → Bool) (n i : ℕ) → i < n → p i ≡ true → filter p (range_with_len 0 n) ≡ filter p (range_with_len 0 i) ++ (i ∷ filter p (range_with_len (i + 1) (n - i - 1)))
filter-around p n i h here =
    let parts : n ≡ i + suc (n - i - 1) = omega arith in
    let start : 0 + i ≡ i = omega arith in
    ap (λ m. filter p (range_with_len 0 m)) parts
    ∙ ap (filter p) (range_with_len-add 0 i (suc (n - i - 1)))
    ∙ filter-append p (range_with_len 0 i) _
    ∙ rw (start, here) refl

last_or-push : (o : Option ℕ) (xs : List ℕ) (x : ℕ) → last_or o (xs ++ (x ∷ [])) ≡ Some x
last_or-push o [] x = refl
last_or-push o (y ∷ ys) x = last_or-push (Some y) ys x

other_bit : (a b : Bool) → a ≢ b → beq a b ≡ false
other_bit a b h = false_from_ne_true _ (λ e. h ((booleans_Decides a b).0 e))

same_bit : (a b : Bool) → a ≡ b → beq a b ≡ true
same_bit a b h = (booleans_Decides a b).1 h

-- A place with the wanted bit is the first such place if no place before it has the bit.
pub first_place-found : (wanted : Bool) (list : List Bool) (i : ℕ) → i < length list → slice_index_or list i false ≡ wanted → ((k : ℕ) → k < i → slice_index_or list k false ≢ wanted) → first_place wanted list ≡ Some i
unfolding places_of
first_place-found wanted list i h here before =
    let p : ℕ → Bool = λ k. beq (slice_index_or list k false) wanted in
    ap (λ xs. slice_get xs 0) (filter-around p (length list) i h (same_bit _ _ here))
    ∙ ap (λ xs. slice_get (xs ++ (i ∷ filter p (range_with_len (i + 1) (length list - i - 1)))) 0) (filter-none p 0 i (λ k low high. other_bit _ _ (before k (omega arith))))

-- If no place has the wanted bit, there is no first such place.
pub first_place-none : (wanted : Bool) (list : List Bool) → ((k : ℕ) → k < length list → slice_index_or list k false ≢ wanted) → first_place wanted list ≡ None
unfolding places_of
first_place-none wanted list nowhere =
    ap (λ xs. slice_get xs 0) (filter-none (λ k. beq (slice_index_or list k false) wanted) 0 (length list) (λ k low high. other_bit _ _ (nowhere k (omega arith))))

-- A place with the wanted bit is the last such place if no place behind it has the bit.
pub last_place-found : (wanted : Bool) (list : List Bool) (i : ℕ) → i < length list → slice_index_or list i false ≡ wanted → ((k : ℕ) → i < k → k < length list → slice_index_or list k false ≢ wanted) → last_place wanted list ≡ Some i
unfolding places_of
last_place-found wanted list i h here after =
    let p : ℕ → Bool = λ k. beq (slice_index_or list k false) wanted in
    ap (last_or None) (filter-around p (length list) i h (same_bit _ _ here))
    ∙ ap (λ xs. last_or None (filter p (range_with_len 0 i) ++ (i ∷ xs))) (filter-none p (i + 1) (length list - i - 1) (λ k low high. other_bit _ _ (after k (omega arith) (omega arith))))
    ∙ last_or-push None (filter p (range_with_len 0 i)) i

-- If no place has the wanted bit, there is no last such place.
pub last_place-none : (wanted : Bool) (list : List Bool) → ((k : ℕ) → k < length list → slice_index_or list k false ≢ wanted) → last_place wanted list ≡ None
unfolding places_of
last_place-none wanted list nowhere =
    ap (last_or None) (filter-none (λ k. beq (slice_index_or list k false) wanted) 0 (length list) (λ k low high. other_bit _ _ (nowhere k (omega arith))))
