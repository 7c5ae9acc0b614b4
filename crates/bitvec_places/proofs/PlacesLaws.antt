-- The places of a bit, where the first or the last of them was searched.
use Rattle.std.specs.Prelude.{◌≡◌, ◌≢◌, ℕ, ◌+◌, ◌-◌, ◌<◌, ◌≤◌, zero, suc, Bool, true, false, cond, Some, None, List, [], ◌∷◌, ◌++◌, length, filter, count_by, slice_index_or, slice_range, refl}
use Rattle.std.specs.Bool.{beq}
use Rattle.std.specs.Cmp.{booleans_Decides}
use Rattle.std.specs.List.{All, range_with_len}
use Rattle.std.proofs.Common.{arith, sym, ◌∙◌, ap}
use Rattle.std.proofs.lemmas.Bool.{false_from_ne_true}
use Rattle.std.proofs.lemmas.List.Elements.{All-filter, filter-append}
use Rattle.std.proofs.lemmas.List.FromFn.{get_or-range_with_len, length-range_with_len}
use Rattle.std.proofs.lemmas.List.Sums.{count_by-le-length, length-filter}
use Rattle.std.proofs.Math.Bridge.{le_prop}
use Rattle.std.proofs.Math.Nat.{sub_self}
use Rattle.bitvec_base.specs.Lists.{first_place, last_place, places_of}
use Rattle.bitvec_base.specs.ListsLaws.{range_with_len-add}
use Rattle.bitvec_base.specs.PlacesLaws.{first_place-absent, first_place-before, first_place-bit, last_place-absent, last_place-after, last_place-bit}
use Rattle.bitvec_base.specs.SliceLaws.{range-front, range-none}
use Rattle.bitvec_base.specs.WriteLaws.{get-slice_range, length-slice_range}
use Rattle.bitvec_places.specs.declared.rest.Rest.{Rest}
use Rattle.bitvec_places.specs.Places.{IsRestOf, places_in}

-- ---- parts

-- the places before m, and those from it on
pub places-join : (wanted : Bool) (list : List Bool) (a m e : ℕ) → a ≤ m → m ≤ e → places_in wanted list a e ≡ places_in wanted list a m ++ places_in wanted list m e
unfolding places_in
places-join wanted list a m e low high =
    let sum : e - a ≡ m - a + (e - m) = omega arith in
    let start : a + (m - a) ≡ m = omega arith in
    rw (sum, range_with_len-add a (m - a) (e - m), start) (filter-append (λ (i : ℕ). beq (slice_index_or list i false) wanted) (range_with_len a (m - a)) (range_with_len m (e - m)))

pub filter-none : (p : ℕ → Bool) (a n : ℕ) → ((k : ℕ) → k < n → p (a + k) ≡ false) → filter p (range_with_len a n) ≡ []
filter-none p a zero lacks = refl
filter-none p a (suc n) lacks =
    let here : p a ≡ false = let same : a + 0 ≡ a = omega arith in ap p (sym same) ∙ lacks 0 (omega arith) in
    rw here (filter-none p (a + 1) n (λ k h. let next : a + 1 + k ≡ a + (k + 1) = omega arith in ap p next ∙ lacks (k + 1) (omega arith)))

other : (bit wanted : Bool) → bit ≢ wanted → beq bit wanted ≡ false
other bit wanted differs = false_from_ne_true (beq bit wanted) (λ same. differs ((booleans_Decides bit wanted).0 same))

-- none where no bit is the wanted one
pub places-none : (wanted : Bool) (list : List Bool) (a e : ℕ) → ((k : ℕ) → k < e - a → slice_index_or list (a + k) false ≢ wanted) → places_in wanted list a e ≡ []
unfolding places_in
places-none wanted list a e absent = filter-none (λ (i : ℕ). beq (slice_index_or list i false) wanted) a (e - a) (λ k h. other _ wanted (absent k h))

-- one where the bit is
pub places-one : (wanted : Bool) (list : List Bool) (i : ℕ) → slice_index_or list i false ≡ wanted → places_in wanted list i (i + 1) ≡ i ∷ []
unfolding places_in
places-one wanted list i here =
    let one : i + 1 - i ≡ suc zero = omega arith in
    let wants = (booleans_Decides (slice_index_or list i false) wanted).1 here in
    rw (one, wants) refl

-- where the bit is the wanted one at a place, and at none before it
pub places-next : (wanted : Bool) (list : List Bool) (a i e : ℕ) → a ≤ i → i < e → ((k : ℕ) → k < i - a → slice_index_or list (a + k) false ≢ wanted) → slice_index_or list i false ≡ wanted → places_in wanted list a e ≡ i ∷ places_in wanted list (i + 1) e
places-next wanted list a i e low high before here =
    places-join wanted list a i e low (omega arith)
    ∙ ap (λ (l : List ℕ). l ++ places_in wanted list i e) (places-none wanted list a i before)
    ∙ places-join wanted list i (i + 1) e (omega arith) (omega arith)
    ∙ ap (λ (l : List ℕ). l ++ places_in wanted list (i + 1) e) (places-one wanted list i here)

-- ---- what a search of the part from f up to, without, e tells

module _ (wanted : Bool) (list : List Bool) (f e : ℕ) (order : f ≤ e) (within : e ≤ length list) where
  -- there is none, if none is found
  pub places-absent : None ≡ first_place wanted (slice_range list f e) → places_in wanted list f e ≡ []
  places-absent found =
      let long = length-slice_range list f e within in
      places-none wanted list f e (λ k h here. first_place-absent wanted (slice_range list f e) (sym found) k (omega arith) (get-slice_range list f e k false (omega arith) ∙ here))

  pub places-absent_back : None ≡ last_place wanted (slice_range list f e) → places_in wanted list f e ≡ []
  places-absent_back found =
      let long = length-slice_range list f e within in
      places-none wanted list f e (λ k h here. last_place-absent wanted (slice_range list f e) (sym found) k (omega arith) (get-slice_range list f e k false (omega arith) ∙ here))

  -- the first that is found comes before all others
  pub places-first : (i : ℕ) → Some i ≡ first_place wanted (slice_range list f e) → i < e - f → places_in wanted list f e ≡ (f + i) ∷ places_in wanted list (f + i + 1) e
  places-first i found below =
      places-next wanted list f (f + i) e (omega arith) (omega arith)
      (λ k h here. first_place-before wanted (slice_range list f e) i k (sym found) (omega arith) (get-slice_range list f e k false (omega arith) ∙ here))
      (sym (get-slice_range list f e i false (omega arith)) ∙ first_place-bit wanted (slice_range list f e) i (sym found))

  -- the last comes behind them
  pub places-last : (i : ℕ) → Some i ≡ last_place wanted (slice_range list f e) → i < e - f → places_in wanted list f e ≡ places_in wanted list f (f + i) ++ (f + i) ∷ []
  places-last i found below =
      let long = length-slice_range list f e within in
      let behind = places-none wanted list (f + i + 1) e (λ k h here.
      let next : f + i + 1 + k ≡ f + (i + 1 + k) = omega arith in
      last_place-after wanted (slice_range list f e) i (i + 1 + k) (sym found) (omega arith) (omega arith)
      (get-slice_range list f e (i + 1 + k) false (omega arith) ∙ ap (λ (n : ℕ). slice_index_or list n false) (sym next) ∙ here)) in
      let bit = sym (get-slice_range list f e i false (omega arith)) ∙ last_place-bit wanted (slice_range list f e) i (sym found) in
      places-join wanted list f (f + i) e (omega arith) (omega arith)
      ∙ ap (λ (l : List ℕ). places_in wanted list f (f + i) ++ l)
      (places-join wanted list (f + i) (f + i + 1) e (omega arith) (omega arith)
      ∙ ap (λ (l : List ℕ). l ++ places_in wanted list (f + i + 1) e) (places-one wanted list (f + i) bit)
      ∙ ap (λ (l : List ℕ). (f + i) ∷ l) behind)

-- the number of them is that of the part's bits
as_many : (here : Bool) (i : ℕ) (bit : Bool) (places : List ℕ) (bits : List Bool) → length places ≡ length bits → length (cond here (i ∷ places) places) ≡ length (cond here (bit ∷ bits) bits)
as_many true i bit places bits same = ap suc same
as_many false i bit places bits same = same

filter-count : (wanted : Bool) (list : List Bool) (test : Bool → Bool) → ((bit : Bool) → beq bit wanted ≡ test bit) → (a n : ℕ) → a + n ≤ length list → length (filter (λ i. beq (slice_index_or list i false) wanted) (range_with_len a n)) ≡ length (filter test (slice_range list a (a + n)))
filter-count wanted list test same a zero within =
    let none = range-none list a (a + 0) (omega arith) in
    rw none refl
filter-count wanted list test same a (suc n) within =
    let front = range-front list a (a + suc n) false (omega arith) within in
    let next : a + suc n ≡ a + 1 + n = omega arith in
    let rest = filter-count wanted list test same (a + 1) n (omega arith) in
    rw (same (slice_index_or list a false), ← front, next)
    (as_many (test (slice_index_or list a false)) a (slice_index_or list a false) _ _ rest)

pub places-count : (wanted : Bool) (list : List Bool) (f e : ℕ) → f ≤ e → e ≤ length list → (test : Bool → Bool) → ((bit : Bool) → beq bit wanted ≡ test bit) → length (places_in wanted list f e) ≡ count_by test (slice_range list f e)
unfolding places_in
places-count wanted list f e order within test same =
    let end : f + (e - f) ≡ e = omega arith in
    filter-count wanted list test same f (e - f) (omega arith)
    ∙ ap (λ (n : ℕ). length (filter test (slice_range list f n))) end
    ∙ length-filter test (slice_range list f e)

-- no place, and all
pub places-empty : (wanted : Bool) (list : List Bool) (a : ℕ) → places_in wanted list a a ≡ []
unfolding places_in
places-empty wanted list a = rw (sub_self a) refl

pub all_places : (wanted : Bool) (list : List Bool) (n : ℕ) → n ≡ length list → places_in wanted list 0 n ≡ places_of wanted list
unfolding places_in places_of
all_places wanted list n long = let whole : n - 0 ≡ length list = omega arith in rw whole refl

-- none of no bits, and at most as many as there are bits
pub no_places : (wanted : Bool) → places_of wanted [] ≡ []
unfolding places_of
no_places wanted = refl

pub few_places : (wanted : Bool) (list : List Bool) → length (places_of wanted list) ≤ length list
unfolding places_of
few_places wanted list =
    let test : ℕ → Bool = λ i. beq (slice_index_or list i false) wanted in
    let count = length-filter test (range_with_len 0 (length list)) in
    let most = count_by-le-length test (range_with_len 0 (length list)) in
    let all = length-range_with_len 0 (length list) in
    omega arith

-- each is below the length
pub places_inside : (wanted : Bool) (list : List Bool) → All (λ index. index < length list) (places_of wanted list)
unfolding places_of
places_inside wanted list =
    All-filter (λ i. beq (slice_index_or list i false) wanted) (λ index. index < length list) (range_with_len 0 (length list)) (λ k d h.
    let long = length-range_with_len 0 (length list) in
    let is = get_or-range_with_len 0 (length list) k d (omega arith) in omega arith)

-- there is one proof at most of what a rest is
pub IsRestOf-prop : (rest : Rest) (n : ℕ) → IsProp (IsRestOf rest n)
IsRestOf-prop rest n x y = λ i. record { order = le_prop x.order y.order i; bound = le_prop x.bound y.bound i }
