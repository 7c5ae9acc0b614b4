-- Every so many places written and read, one after the other.
use Rattle.std.specs.Prelude.{◌≡◌, ◌≢◌, ℕ, ◌+◌, ◌*◌, ◌/◌, ◌%◌, ◌==◌, ◌<◌, ◌≤◌, nat_lt, Bool, true, false, cond, ◌&&◌, if◌then◌else◌, List, length, map, count_by, slice_index_or, slice_set, take, refl}
use Rattle.std.specs.Int.{div_ceil}
use Rattle.std.specs.List.{range_with_len}
use Rattle.std.proofs.Common.{arith, sym, ◌∙◌, ap, ⊎_elim}
use Rattle.std.proofs.Math.Nat.{mul-le-mul_left}
use Rattle.std.proofs.lemmas.Bool.{cases_eq, lt-ltb}
use Rattle.std.proofs.lemmas.Bool.Decides.{nat_tests}
use Rattle.std.proofs.lemmas.Grind.{div_ceil_times, get_or-set_at}
use Rattle.std.proofs.lemmas.List.{get_or-set_other, get_or_default, length-set, same_lists}
use Rattle.std.proofs.lemmas.List.FromFn.{get_or-map-range_with_len, length-map-range_with_len}
use Rattle.std.proofs.lemmas.List.Sums.{sum_by_more}
use Rattle.std.proofs.lemmas.Nat.{div-add-mod', div-mul-add, mod-mul-add, div_below}
use Rattle.bitvec_words.specs.WordLaws.{take-all}
use Rattle.bitvec_checked.specs.Every.{every, with_every}

-- ---- numbers

pub place-below : (k step n : ℕ) → 0 < step → k < div_ceil n step → k * step < n
place-below k step n some below =
    let above = (div_ceil_times n step some).1 in
    let more : k + 1 ≤ div_ceil n step = omega arith in
    let product = mul-le-mul_left step more in
    omega (arith, above, product)

count-above : (i step n : ℕ) → 0 < step → i < n → i / step < div_ceil n step
count-above i step n some below =
    let most = (div_ceil_times n step some).0 in
    div_below i step (div_ceil n step) some (omega (arith, most))

times-div : (k step : ℕ) → 0 < step → k * step / step ≡ k
times-div k step some = let place : k * step + 0 ≡ k * step = omega arith in ap (λ n. n / step) (sym place) ∙ div-mul-add k step 0 some

times-mod : (k step : ℕ) → 0 < step → k * step % step ≡ 0
times-mod k step some = let place : k * step + 0 ≡ k * step = omega arith in ap (λ n. n % step) (sym place) ∙ mod-mul-add k step 0 some

-- ---- the bits there

pub length-every : (step : ℕ) (list : List Bool) → length (every step list) ≡ div_ceil (length list) step
unfolding every
length-every step list = length-map-range_with_len _ 0 _

pub get-every : (step : ℕ) (list : List Bool) (k : ℕ) (d : Bool) → k < div_ceil (length list) step → slice_index_or (every step list) k d ≡ slice_index_or list (k * step) false
unfolding every
get-every step list k d below = get_or-map-range_with_len (λ k. slice_index_or list (k * step) false) 0 (div_ceil (length list) step) k k d below (omega arith)

-- one more is counted
pub ones-next : (step : ℕ) (list : List Bool) (k : ℕ) (bit : Bool) → k < div_ceil (length list) step → bit ≡ slice_index_or list (k * step) false
    → count_by (λ (b : Bool). b) (take (k + 1) (every step list)) ≡ count_by (λ (b : Bool). b) (take k (every step list)) + cond {A = ℕ} bit 1 0
ones-next step list k bit below is =
    let long = length-every step list in
    sum_by_more (λ (b : Bool). cond b 1 0) (every step list) k false (omega (arith, long))
    ∙ ap (λ (b : Bool). count_by (λ (b : Bool). b) (take k (every step list)) + cond {A = ℕ} b 1 0) (get-every step list k false below ∙ sym is)

-- and then all are
pub ones-all : (step : ℕ) (list : List Bool) (k : ℕ) → k ≡ div_ceil (length list) step → count_by (λ (b : Bool). b) (take k (every step list)) ≡ count_by (λ (b : Bool). b) (every step list)
ones-all step list k all =
    let long = length-every step list in
    ap (λ (l : List Bool). count_by (λ (b : Bool). b) l) (take-all (every step list) k (omega (arith, long)))

-- ---- the list with other bits there

pub length-with_every : (step : ℕ) (f : ℕ → Bool) (list : List Bool) → length (with_every step f list) ≡ length list
unfolding with_every
length-with_every step f list = length-map-range_with_len _ 0 (length list)

pub get-with_every : (step : ℕ) (f : ℕ → Bool) (list : List Bool) (i : ℕ) (d : Bool) → i < length list → slice_index_or (with_every step f list) i d ≡ (if i % step == 0 then f (i / step) else slice_index_or list i d)
unfolding with_every
get-with_every step f list i d inside =
    get_or-map-range_with_len (λ i. if i % step == 0 then f (i / step) else slice_index_or list i false) 0 (length list) i i d inside (omega arith)
    ∙ ap (λ (b : Bool). if i % step == 0 then f (i / step) else b) (get_or_default list i false d inside)

-- those of f j for j below k
unfoldable pub with_first : ℕ → ℕ → (ℕ → Bool) → List Bool → List Bool
with_first k step f list = map (λ i. if i % step == 0 && nat_lt (i / step) k then f (i / step) else slice_index_or list i false) (range_with_len 0 (length list))

length-with_first : (k step : ℕ) (f : ℕ → Bool) (list : List Bool) → length (with_first k step f list) ≡ length list
unfolding with_first
length-with_first k step f list = length-map-range_with_len _ 0 (length list)

get-with_first : (k step : ℕ) (f : ℕ → Bool) (list : List Bool) (i : ℕ) (d : Bool) → i < length list → slice_index_or (with_first k step f list) i d ≡ (if i % step == 0 && nat_lt (i / step) k then f (i / step) else slice_index_or list i d)
unfolding with_first
get-with_first k step f list i d inside =
    get_or-map-range_with_len (λ i. if i % step == 0 && nat_lt (i / step) k then f (i / step) else slice_index_or list i false) 0 (length list) i i d inside (omega arith)
    ∙ ap (λ (b : Bool). if i % step == 0 && nat_lt (i / step) k then f (i / step) else b) (get_or_default list i false d inside)

test-none : (r q : ℕ) (x y : Bool) → (if r == 0 && nat_lt q 0 then x else y) ≡ y
test-none r q x y = grind (arith, nat_tests)

test-here : (k : ℕ) (x y : Bool) → (if 0 == 0 && nat_lt k (k + 1) then x else y) ≡ x
test-here k x y = let below : nat_lt k (k + 1) ≡ true = lt-ltb k (k + 1) (omega arith) in rw below refl

test-other : (r q k : ℕ) → (r ≡ 0 → q ≢ k) → (r == 0 && nat_lt q k) ≡ (r == 0 && nat_lt q (k + 1))
test-other r q k apart = grind (arith, nat_tests, apart)

test-all : (r q n : ℕ) → q < n → (r == 0 && nat_lt q n) ≡ (r == 0)
test-all r q n below = grind (arith, nat_tests)

-- of none
pub first-none : (step : ℕ) (f : ℕ → Bool) (list : List Bool) → with_first 0 step f list ≡ list
first-none step f list =
    let long = length-with_first 0 step f list in
    same_lists _ _ long (λ i d inside. get-with_first 0 step f list i d (omega (arith, long)) ∙ test-none (i % step) (i / step) (f (i / step)) (slice_index_or list i d))

-- of one more
first-here : (k step : ℕ) (f : ℕ → Bool) (list : List Bool) (d : Bool) → 0 < step → k * step < length list → slice_index_or (with_first (k + 1) step f list) (k * step) d ≡ f k
first-here k step f list d some inside =
    let rest = times-mod k step some in
    let quotient = times-div k step some in
    get-with_first (k + 1) step f list (k * step) d inside ∙ rw (rest, quotient) (test-here k (f k) (slice_index_or list (k * step) d))

apart-from : (k step i : ℕ) → i ≢ k * step → i % step ≡ 0 → i / step ≢ k
apart-from k step i other zero same =
    let whole = div-add-mod' i step in
    let product : i / step * step ≡ k * step = ap (λ q. q * step) same in
    other (omega (arith, whole, product, zero))

first-other : (k step : ℕ) (f : ℕ → Bool) (list : List Bool) (i : ℕ) (d : Bool) → i < length list → i ≢ k * step → slice_index_or (with_first k step f list) i d ≡ slice_index_or (with_first (k + 1) step f list) i d
first-other k step f list i d inside other =
    get-with_first k step f list i d inside
    ∙ ap (λ (test : Bool). if test then f (i / step) else slice_index_or list i d) (test-other (i % step) (i / step) k (apart-from k step i other))
    ∙ sym (get-with_first (k + 1) step f list i d inside)

pub first-next : (k step : ℕ) (f : ℕ → Bool) (list : List Bool) (bit : Bool) → 0 < step → k * step < length list → bit ≡ f k → slice_set (with_first k step f list) (k * step) bit ≡ with_first (k + 1) step f list
first-next k step f list bit some inside is =
    let long = length-with_first k step f list in
    let longer = length-with_first (k + 1) step f list in
    let kept = length-set (with_first k step f list) (k * step) bit in
    same_lists _ _ (kept ∙ long ∙ sym longer) (λ i d below. ⊎_elim
    (λ (here : i ≡ k * step). get_or-set_at (with_first k step f list) (k * step) i bit d here (omega (arith, long)) ∙ is ∙ sym (rw here (first-here k step f list d some inside)))
    (λ (other : i ≢ k * step). get_or-set_other (with_first k step f list) (k * step) i bit d other ∙ first-other k step f list i d (omega (arith, long, kept)) other)
    (cases_eq i (k * step)))

-- of all
pub first-all : (n step : ℕ) (f : ℕ → Bool) (list : List Bool) → 0 < step → n ≡ div_ceil (length list) step → with_first n step f list ≡ with_every step f list
first-all n step f list some all =
    let long = length-with_first n step f list in
    let whole = length-with_every step f list in
    same_lists _ _ (long ∙ sym whole) (λ i d below.
    let inside : i < length list = omega (arith, long) in
    let counted = rw (← all) at (count-above i step (length list) some inside) in
    get-with_first n step f list i d inside
    ∙ ap (λ (test : Bool). if test then f (i / step) else slice_index_or list i d) (test-all (i % step) (i / step) n counted)
    ∙ sym (get-with_every step f list i d inside))
