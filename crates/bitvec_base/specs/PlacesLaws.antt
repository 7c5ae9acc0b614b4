-- The first and the last place of a bit in a list: what is found there, and by the parts of the list.
use Rattle.std.specs.Prelude.{◌≡◌, ◌≢◌, ℕ, ◌+◌, ◌<◌, zero, suc, Bool, true, false, not, ◌||◌, ◌&&◌, cond, List, [], ◌∷◌, ◌++◌, length, map, filter, slice_get, replicate, slice_index_or, Option, Some, None, option_map, refl}
use Rattle.std.specs.Bool.{beq}
use Rattle.std.specs.Cmp.{booleans_Decides}
use Rattle.std.specs.List.{last_or, list_any, list_all, range_with_len}
use Rattle.std.specs.Option.{option_or, is_some}
use Rattle.std.proofs.Common.{arith, sym, ◌∙◌, ap, subst, add-one}
use Rattle.bitvec_base.specs.Lists.{places_of, first_place, last_place}

-- ---- the places of a bit

-- a place in front, where the places behind it moved on by one
moved_on : (here : Bool) (a : ℕ) (behind places : List ℕ) → behind ≡ map suc places → cond here (suc a ∷ behind) behind ≡ map suc (cond here (a ∷ places) places)
moved_on true a behind places same = ap (λ (l : List ℕ). suc a ∷ l) same
moved_on false a behind places same = same

-- what passes when each number moves on by one
filter-next : (p : ℕ → Bool) (a n : ℕ) → filter p (range_with_len (suc a) n) ≡ map suc (filter (λ i. p (suc i)) (range_with_len a n))
filter-next p a zero = refl
filter-next p a (suc n) = rw (add-one (suc a), add-one a) (moved_on (p (suc a)) a _ _ (filter-next p (suc a) n))

-- a bit more in front moves each place on by one
places_of-cons : (wanted bit : Bool) (bits : List Bool) → places_of wanted (bit ∷ bits) ≡ cond (beq bit wanted) (0 ∷ map suc (places_of wanted bits)) (map suc (places_of wanted bits))
unfolding places_of
places_of-cons wanted bit bits =
    ap (λ (l : List ℕ). cond (beq bit wanted) (0 ∷ l) l)
    (filter-next (λ (i : ℕ). beq (slice_index_or (bit ∷ bits) i false) wanted) 0 (length bits))

-- ---- the first

-- An empty list has no first place of a bit.
pub first_place-nil : (wanted : Bool) → first_place wanted [] ≡ None
unfolding places_of
first_place-nil wanted = refl

first_of : (here : Bool) (places : List ℕ) → slice_get (cond here (0 ∷ map suc places) (map suc places)) 0 ≡ cond here (Some 0) (option_map (λ i. i + 1) (slice_get places 0))
first_of true places = refl
first_of false [] = refl
first_of false (i ∷ places) = ap Some (sym (add-one i))

-- The first place is 0 if the first bit is the wanted one, and else one more than the first place of the rest.
pub first_place-cons : (wanted bit : Bool) (bits : List Bool) → first_place wanted (bit ∷ bits) ≡ cond (beq bit wanted) (Some 0) (option_map (λ i. i + 1) (first_place wanted bits))
first_place-cons wanted bit bits =
    ap (λ (l : List ℕ). slice_get l 0) (places_of-cons wanted bit bits)
    ∙ first_of (beq bit wanted) (places_of wanted bits)

moved_none : (o : Option ℕ) → option_map (λ i. 0 + i) o ≡ o
moved_none None = refl
moved_none (Some i) = ap Some (let e : 0 + i ≡ i = omega arith in e)

moved_one : (n : ℕ) (here : Bool) (a b : Option ℕ) → cond here (Some 0) (option_map (λ i. i + 1) (option_or a (option_map (λ i. n + i) b))) ≡ option_or (cond here (Some 0) (option_map (λ i. i + 1) a)) (option_map (λ i. suc n + i) b)
moved_one n true a b = refl
moved_one n false (Some i) b = refl
moved_one n false None None = refl
moved_one n false None (Some i) = ap Some (let e : n + i + 1 ≡ suc n + i = omega arith in e)

-- The first place in two joined lists is that of the first list, or else that of the second behind the first.
pub first_place-append : (wanted : Bool) (xs ys : List Bool) → first_place wanted (xs ++ ys) ≡ option_or (first_place wanted xs) (option_map (λ i. length xs + i) (first_place wanted ys))
first_place-append wanted [] ys = rw (first_place-nil wanted) (sym (moved_none (first_place wanted ys)))
first_place-append wanted (x ∷ xs) ys =
    rw (first_place-cons wanted x (xs ++ ys), first_place-cons wanted x xs, first_place-append wanted xs ys)
    (moved_one (length xs) (beq x wanted) (first_place wanted xs) (first_place wanted ys))

first_below : (here : Bool) (o : Option ℕ) (n : ℕ) → ((j : ℕ) → o ≡ Some j → j < n) → (i : ℕ) → cond here (Some 0) (option_map (λ k. k + 1) o) ≡ Some i → i < suc n
first_below true o n below i found = let same : 0 ≡ i = cc in omega arith
first_below false (Some j) n below i found = let h = below j refl in let same : j + 1 ≡ i = cc in omega arith
first_below false None n below i found = cc

-- The first place of a bit is below the length of the list.
pub first_place-below : (wanted : Bool) (list : List Bool) (i : ℕ) → first_place wanted list ≡ Some i → i < length list
first_place-below wanted [] i found = let none = first_place-nil wanted in cc
first_place-below wanted (x ∷ xs) i found =
    first_below (beq x wanted) (first_place wanted xs) (length xs) (first_place-below wanted xs) i (sym (first_place-cons wanted x xs) ∙ found)

-- ---- the last

-- An empty list has no last place of a bit.
pub last_place-nil : (wanted : Bool) → last_place wanted [] ≡ None
unfolding places_of
last_place-nil wanted = refl

or_none : (o : Option ℕ) → o ≡ option_or o None
or_none None = refl
or_none (Some i) = refl

or_some : (o : Option ℕ) (i j : ℕ) → option_or o (Some j) ≡ option_or (option_or o (Some j)) (Some i)
or_some None i j = refl
or_some (Some k) i j = refl

last_or-some : (i : ℕ) (places : List ℕ) → last_or (Some i) places ≡ option_or (last_or None places) (Some i)
last_or-some i [] = refl
last_or-some i (j ∷ places) = rw (last_or-some j places) (or_some (last_or None places) i j)

last_or-map : (o : Option ℕ) (places : List ℕ) → last_or (option_map (λ i. i + 1) o) (map suc places) ≡ option_map (λ i. i + 1) (last_or o places)
last_or-map o [] = refl
last_or-map o (j ∷ places) =
    ap (λ (i : ℕ). last_or (Some i) (map suc places)) (sym (add-one j)) ∙ last_or-map (Some j) places

last_of : (here : Bool) (places : List ℕ) → last_or None (cond here (0 ∷ map suc places) (map suc places)) ≡ option_or (option_map (λ i. i + 1) (last_or None places)) (cond here (Some 0) None)
last_of true places =
    last_or-some 0 (map suc places) ∙ ap (λ (o : Option ℕ). option_or o (Some 0)) (last_or-map None places)
last_of false places = last_or-map None places ∙ or_none (option_map (λ (i : ℕ). i + 1) (last_or None places))

-- The last place is one more than that of the rest, or else 0 if the first bit is the wanted one.
pub last_place-cons : (wanted bit : Bool) (bits : List Bool) → last_place wanted (bit ∷ bits) ≡ option_or (option_map (λ i. i + 1) (last_place wanted bits)) (cond (beq bit wanted) (Some 0) None)
last_place-cons wanted bit bits =
    ap (last_or None) (places_of-cons wanted bit bits) ∙ last_of (beq bit wanted) (places_of wanted bits)

-- The last place in a list of one bit is 0 if that bit is the wanted one, and else there is none.
pub last_place-one : (wanted bit : Bool) → last_place wanted (bit ∷ []) ≡ cond (beq bit wanted) (Some 0) None
last_place-one wanted bit = rw (last_place-cons wanted bit [], last_place-nil wanted) refl

last_moved_none : (o : Option ℕ) → o ≡ option_or (option_map (λ i. 0 + i) o) None
last_moved_none None = refl
last_moved_none (Some i) = ap Some (let e : i ≡ 0 + i = omega arith in e)

last_moved_one : (n : ℕ) (here a b : Option ℕ) → option_or (option_map (λ i. i + 1) (option_or (option_map (λ i. n + i) b) a)) here ≡ option_or (option_map (λ i. suc n + i) b) (option_or (option_map (λ i. i + 1) a) here)
last_moved_one n here a None = refl
last_moved_one n here a (Some i) = ap Some (let e : n + i + 1 ≡ suc n + i = omega arith in e)

-- The last place in two joined lists is that of the second behind the first, or else that of the first.
pub last_place-append : (wanted : Bool) (xs ys : List Bool) → last_place wanted (xs ++ ys) ≡ option_or (option_map (λ i. length xs + i) (last_place wanted ys)) (last_place wanted xs)
last_place-append wanted [] ys = rw (last_place-nil wanted) (last_moved_none (last_place wanted ys))
last_place-append wanted (x ∷ xs) ys =
    rw (last_place-cons wanted x (xs ++ ys), last_place-cons wanted x xs, last_place-append wanted xs ys)
    (last_moved_one (length xs) (cond (beq x wanted) (Some 0) None) (last_place wanted xs) (last_place wanted ys))

last_below : (here : Bool) (o : Option ℕ) (n : ℕ) → ((j : ℕ) → o ≡ Some j → j < n) → (i : ℕ) → option_or (option_map (λ k. k + 1) o) (cond here (Some 0) None) ≡ Some i → i < suc n
last_below here (Some j) n below i found = let h = below j refl in let same : j + 1 ≡ i = cc in omega arith
last_below true None n below i found = let same : 0 ≡ i = cc in omega arith
last_below false None n below i found = cc

-- The last place of a bit is below the length of the list.
pub last_place-below : (wanted : Bool) (list : List Bool) (i : ℕ) → last_place wanted list ≡ Some i → i < length list
last_place-below wanted [] i found = let none = last_place-nil wanted in cc
last_place-below wanted (x ∷ xs) i found =
    last_below (beq x wanted) (last_place wanted xs) (length xs) (last_place-below wanted xs) i (sym (last_place-cons wanted x xs) ∙ found)

-- ---- a list of one bit

-- nothing is found in a list of the other bit
not_wanted : (wanted : Bool) → beq (not wanted) wanted ≡ false
not_wanted true = refl
not_wanted false = refl

-- A list of copies of the other bit has no first place of the wanted bit.
pub first_place-other : (wanted : Bool) (n : ℕ) → first_place wanted (replicate n (not wanted)) ≡ None
first_place-other wanted zero = first_place-nil wanted
first_place-other wanted (suc n) =
    rw (first_place-cons wanted (not wanted) (replicate n (not wanted)), not_wanted wanted, first_place-other wanted n) refl

-- A list of copies of the other bit has no last place of the wanted bit.
pub last_place-other : (wanted : Bool) (n : ℕ) → last_place wanted (replicate n (not wanted)) ≡ None
last_place-other wanted zero = last_place-nil wanted
last_place-other wanted (suc n) =
    rw (last_place-cons wanted (not wanted) (replicate n (not wanted)), not_wanted wanted, last_place-other wanted n) refl

-- ---- whether there is one

any_by_cases : (here : Bool) (rest : Option ℕ) → is_some (cond (beq here true) (Some 0) (option_map (λ i. i + 1) rest)) ≡ (here || is_some rest)
any_by_cases true rest = refl
any_by_cases false None = refl
any_by_cases false (Some i) = refl

-- There is a first place of a 1 exactly if some bit is 1.
pub list_any-first_place : (list : List Bool) → is_some (first_place true list) ≡ list_any (λ bit. bit) list
list_any-first_place [] = rw (first_place-nil true) refl
list_any-first_place (bit ∷ bits) =
    rw (first_place-cons true bit bits, any_by_cases bit (first_place true bits), list_any-first_place bits) refl

all_by_cases : (here : Bool) (rest : Option ℕ) → not (is_some (cond (beq here false) (Some 0) (option_map (λ i. i + 1) rest))) ≡ (here && not (is_some rest))
all_by_cases false rest = refl
all_by_cases true None = refl
all_by_cases true (Some i) = refl

-- There is no first place of a 0 exactly if every bit is 1.
pub list_all-first_place : (list : List Bool) → not (is_some (first_place false list)) ≡ list_all (λ bit. bit) list
list_all-first_place [] = rw (first_place-nil false) refl
list_all-first_place (bit ∷ bits) =
    rw (first_place-cons false bit bits, all_by_cases bit (first_place false bits), list_all-first_place bits) refl

-- ---- what is found

differ : (x wanted : Bool) → beq x wanted ≡ false → x ≢ wanted
differ x wanted is same = let equal = (booleans_Decides x wanted).1 same in cc

-- the bit at i is the wanted one, and none before it, or after it, is
abbrev FirstAt : Bool → List Bool → ℕ → Type 0
FirstAt wanted list i = (slice_index_or list i false ≡ wanted) × ((k : ℕ) → k < i → slice_index_or list k false ≢ wanted)

abbrev LastAt : Bool → List Bool → ℕ → Type 0
LastAt wanted list i = (slice_index_or list i false ≡ wanted) × ((k : ℕ) → i < k → k < length list → slice_index_or list k false ≢ wanted)

-- no bit is
abbrev Absent : Bool → List Bool → Type 0
Absent wanted list = (k : ℕ) → k < length list → slice_index_or list k false ≢ wanted

before_later : (wanted x : Bool) (xs : List Bool) (j k : ℕ) → x ≢ wanted → ((m : ℕ) → m < j → slice_index_or xs m false ≢ wanted) → k < suc j → slice_index_or (x ∷ xs) k false ≢ wanted
before_later wanted x xs j zero other before h = other
before_later wanted x xs j (suc k) other before h = before k (omega arith)

after_later : (wanted x : Bool) (xs : List Bool) (j k : ℕ) → ((m : ℕ) → j < m → m < length xs → slice_index_or xs m false ≢ wanted) → suc j < k → k < length (x ∷ xs) → slice_index_or (x ∷ xs) k false ≢ wanted
after_later wanted x xs j zero after low high = absurd (omega arith)
after_later wanted x xs j (suc k) after low high = after k (omega arith) (omega arith)

after_here : (wanted x : Bool) (xs : List Bool) (k : ℕ) → Absent wanted xs → 0 < k → k < length (x ∷ xs) → slice_index_or (x ∷ xs) k false ≢ wanted
after_here wanted x xs zero absent low high = absurd (omega arith)
after_here wanted x xs (suc k) absent low high = absent k (omega arith)

absent_cons : (wanted x : Bool) (xs : List Bool) → x ≢ wanted → Absent wanted xs → Absent wanted (x ∷ xs)
absent_cons wanted x xs other absent zero h = other
absent_cons wanted x xs other absent (suc k) h = absent k (omega arith)

first_of_cons : (wanted x : Bool) (xs : List Bool) (here : Bool) → beq x wanted ≡ here → (o : Option ℕ) → ((j : ℕ) → o ≡ Some j → FirstAt wanted xs j) → (i : ℕ) → cond here (Some 0) (option_map (λ k. k + 1) o) ≡ Some i → FirstAt wanted (x ∷ xs) i
first_of_cons wanted x xs true is o rest i found =
    let same : 0 ≡ i = cc in
    subst (FirstAt wanted (x ∷ xs)) same ((booleans_Decides x wanted).0 is, λ k h. absurd (omega arith))
first_of_cons wanted x xs false is (Some j) rest i found =
    let same : suc j ≡ i = let e : j + 1 ≡ i = cc in omega arith in
    let at = rest j refl in
    subst (FirstAt wanted (x ∷ xs)) same (at.0, λ k h. before_later wanted x xs j k (differ x wanted is) at.1 h)
first_of_cons wanted x xs false is None rest i found = absurd cc

first_at : (wanted : Bool) (list : List Bool) (i : ℕ) → first_place wanted list ≡ Some i → FirstAt wanted list i
first_at wanted [] i found = let none = first_place-nil wanted in absurd cc
first_at wanted (x ∷ xs) i found =
    first_of_cons wanted x xs (beq x wanted) refl (first_place wanted xs) (first_at wanted xs) i (sym (first_place-cons wanted x xs) ∙ found)

-- The bit at the first place of a bit is that bit.
pub first_place-bit : (wanted : Bool) (list : List Bool) (i : ℕ) → first_place wanted list ≡ Some i → slice_index_or list i false ≡ wanted
first_place-bit wanted list i found = (first_at wanted list i found).0

-- No place before the first place of a bit has the bit.
pub first_place-before : (wanted : Bool) (list : List Bool) (i k : ℕ) → first_place wanted list ≡ Some i → k < i → slice_index_or list k false ≢ wanted
first_place-before wanted list i k found h = (first_at wanted list i found).1 k h

first_none_of_cons : (wanted x : Bool) (xs : List Bool) (here : Bool) → beq x wanted ≡ here → (o : Option ℕ) → (o ≡ None → Absent wanted xs) → cond here (Some 0) (option_map (λ k. k + 1) o) ≡ None → Absent wanted (x ∷ xs)
first_none_of_cons wanted x xs true is o rest found = absurd cc
first_none_of_cons wanted x xs false is (Some j) rest found = absurd cc
first_none_of_cons wanted x xs false is None rest found = absent_cons wanted x xs (differ x wanted is) (rest refl)

-- If a bit has no first place, no place of the list has the bit.
pub first_place-absent : (wanted : Bool) (list : List Bool) → first_place wanted list ≡ None → (k : ℕ) → k < length list → slice_index_or list k false ≢ wanted
first_place-absent wanted [] found k h = absurd (omega arith)
first_place-absent wanted (x ∷ xs) found k h =
    first_none_of_cons wanted x xs (beq x wanted) refl (first_place wanted xs) (first_place-absent wanted xs) (sym (first_place-cons wanted x xs) ∙ found) k h

last_none_of_cons : (wanted x : Bool) (xs : List Bool) (here : Bool) → beq x wanted ≡ here → (o : Option ℕ) → (o ≡ None → Absent wanted xs) → option_or (option_map (λ k. k + 1) o) (cond here (Some 0) None) ≡ None → Absent wanted (x ∷ xs)
last_none_of_cons wanted x xs here is (Some j) rest found = absurd cc
last_none_of_cons wanted x xs true is None rest found = absurd cc
last_none_of_cons wanted x xs false is None rest found = absent_cons wanted x xs (differ x wanted is) (rest refl)

-- If a bit has no last place, no place of the list has the bit.
pub last_place-absent : (wanted : Bool) (list : List Bool) → last_place wanted list ≡ None → (k : ℕ) → k < length list → slice_index_or list k false ≢ wanted
last_place-absent wanted [] found k h = absurd (omega arith)
last_place-absent wanted (x ∷ xs) found k h =
    last_none_of_cons wanted x xs (beq x wanted) refl (last_place wanted xs) (last_place-absent wanted xs) (sym (last_place-cons wanted x xs) ∙ found) k h

last_of_cons : (wanted x : Bool) (xs : List Bool) (here : Bool) → beq x wanted ≡ here → (o : Option ℕ) → (o ≡ None → Absent wanted xs) → ((j : ℕ) → o ≡ Some j → LastAt wanted xs j) → (i : ℕ) → option_or (option_map (λ k. k + 1) o) (cond here (Some 0) None) ≡ Some i → LastAt wanted (x ∷ xs) i
last_of_cons wanted x xs here is (Some j) absent rest i found =
    let same : suc j ≡ i = let e : j + 1 ≡ i = cc in omega arith in
    let at = rest j refl in
    subst (LastAt wanted (x ∷ xs)) same (at.0, λ k low high. after_later wanted x xs j k at.1 low high)
last_of_cons wanted x xs true is None absent rest i found =
    let same : 0 ≡ i = cc in
    subst (LastAt wanted (x ∷ xs)) same ((booleans_Decides x wanted).0 is, λ k low high. after_here wanted x xs k (absent refl) low high)
last_of_cons wanted x xs false is None absent rest i found = absurd cc

last_at : (wanted : Bool) (list : List Bool) (i : ℕ) → last_place wanted list ≡ Some i → LastAt wanted list i
last_at wanted [] i found = let none = last_place-nil wanted in absurd cc
last_at wanted (x ∷ xs) i found =
    last_of_cons wanted x xs (beq x wanted) refl (last_place wanted xs) (last_place-absent wanted xs) (last_at wanted xs) i (sym (last_place-cons wanted x xs) ∙ found)

-- The bit at the last place of a bit is that bit.
pub last_place-bit : (wanted : Bool) (list : List Bool) (i : ℕ) → last_place wanted list ≡ Some i → slice_index_or list i false ≡ wanted
last_place-bit wanted list i found = (last_at wanted list i found).0

-- No place behind the last place of a bit has the bit.
pub last_place-after : (wanted : Bool) (list : List Bool) (i k : ℕ) → last_place wanted list ≡ Some i → i < k → k < length list → slice_index_or list k false ≢ wanted
last_place-after wanted list i k found low high = (last_at wanted list i found).1 k low high
