-- The first and the last place of a bit in a slice of a list that is searched a part at a time, from the front or from the back.
use Rattle.std.specs.Prelude.{◌≡◌, ℕ, ◌+◌, ◌-◌, ◌<◌, ◌≤◌, Bool, true, false, List, [], length, slice_range, slice_index_or, Option, Some, None, option_map, cond, refl}
use Rattle.std.specs.Option.{option_or}
use Rattle.std.proofs.Common.{arith, sym, ◌∙◌, ap, subst}
use Rattle.std.proofs.Math.Bool.{beq}
use Rattle.std.proofs.Math.Nat.{sub_self}
use Rattle.std.proofs.lemmas.Bool.{cond-true, cond-false}
use Rattle.bitvec_base.specs.Lists.{first_place, last_place}
use Rattle.bitvec_base.specs.WriteLaws.{length-slice_range}
use Rattle.bitvec_base.specs.PlacesLaws.{first_place-nil, first_place-cons, first_place-append, first_place-below, last_place-below, last_place-nil, last_place-one, last_place-append}
use Rattle.bitvec_base.specs.SliceLaws.{range-one, range-join}

-- nothing is found in an empty part
pub first-empty : (wanted : Bool) (list : List Bool) (a : ℕ) → first_place wanted (slice_range list a a) ≡ None
first-empty wanted list a = rw (sub_self a) (first_place-nil wanted)

pub last-empty : (wanted : Bool) (list : List Bool) (a : ℕ) → last_place wanted (slice_range list a a) ≡ None
last-empty wanted list a = rw (sub_self a) (last_place-nil wanted)

-- a part of one value
pub first-one : (wanted : Bool) (list : List Bool) (i : ℕ) → i < length list → first_place wanted (slice_range list i (i + 1)) ≡ cond (beq (slice_index_or list i false) wanted) (Some 0) None
first-one wanted list i within =
    ap (first_place wanted) (range-one list i false within)
    ∙ first_place-cons wanted (slice_index_or list i false) []
    ∙ ap (λ (o : Option ℕ). cond (beq (slice_index_or list i false) wanted) (Some 0) (option_map (λ (k : ℕ). k + 1) o)) (first_place-nil wanted)

pub last-one : (wanted : Bool) (list : List Bool) (i : ℕ) → i < length list → last_place wanted (slice_range list i (i + 1)) ≡ cond (beq (slice_index_or list i false) wanted) (Some 0) None
last-one wanted list i within =
    ap (last_place wanted) (range-one list i false within) ∙ last_place-one wanted (slice_index_or list i false)

-- the first place in two parts that meet
pub first-join : (wanted : Bool) (list : List Bool) (a m e : ℕ) → a ≤ m → m ≤ e → e ≤ length list → first_place wanted (slice_range list a e) ≡ option_or (first_place wanted (slice_range list a m)) (option_map (λ k. m - a + k) (first_place wanted (slice_range list m e)))
first-join wanted list a m e low high within =
    let long = length-slice_range list a m (omega arith) in
    ap (first_place wanted) (sym (range-join list a m e low high within))
    ∙ first_place-append wanted (slice_range list a m) (slice_range list m e)
    ∙ ap (λ (n : ℕ). option_or (first_place wanted (slice_range list a m)) (option_map (λ (k : ℕ). n + k) (first_place wanted (slice_range list m e)))) long

pub last-join : (wanted : Bool) (list : List Bool) (a m e : ℕ) → a ≤ m → m ≤ e → e ≤ length list → last_place wanted (slice_range list a e) ≡ option_or (option_map (λ k. m - a + k) (last_place wanted (slice_range list m e))) (last_place wanted (slice_range list a m))
last-join wanted list a m e low high within =
    let long = length-slice_range list a m (omega arith) in
    ap (last_place wanted) (sym (range-join list a m e low high within))
    ∙ last_place-append wanted (slice_range list a m) (slice_range list m e)
    ∙ ap (λ (n : ℕ). option_or (option_map (λ (k : ℕ). n + k) (last_place wanted (slice_range list m e))) (last_place wanted (slice_range list a m))) long

-- one more part without it
pub first-next : (wanted : Bool) (list : List Bool) (a m e : ℕ) → a ≤ m → m ≤ e → e ≤ length list → first_place wanted (slice_range list a m) ≡ None → first_place wanted (slice_range list m e) ≡ None → first_place wanted (slice_range list a e) ≡ None
first-next wanted list a m e low high within before here = rw (first-join wanted list a m e low high within, before, here) refl

pub last-next : (wanted : Bool) (list : List Bool) (a m e : ℕ) → a ≤ m → m ≤ e → e ≤ length list → last_place wanted (slice_range list a m) ≡ None → last_place wanted (slice_range list m e) ≡ None → last_place wanted (slice_range list a e) ≡ None
last-next wanted list a m e low high within here behind = rw (last-join wanted list a m e low high within, behind, here) refl

-- the part that has it, which the parts before it lack
pub first-found : (wanted : Bool) (list : List Bool) (a m e z i : ℕ) → a ≤ m → m ≤ e → e ≤ z → z ≤ length list → first_place wanted (slice_range list a m) ≡ None → first_place wanted (slice_range list m e) ≡ Some i → first_place wanted (slice_range list a z) ≡ Some (m - a + i)
first-found wanted list a m e z i low high rest within before here =
    rw (first-join wanted list a e z (omega arith) rest within, first-join wanted list a m e low high (omega arith), before, here) refl

-- the part that has it, which the parts behind it lack
pub last-found : (wanted : Bool) (list : List Bool) (a m e z i : ℕ) → a ≤ m → m ≤ e → e ≤ z → z ≤ length list → last_place wanted (slice_range list e z) ≡ None → last_place wanted (slice_range list m e) ≡ Some i → last_place wanted (slice_range list a z) ≡ Some (m - a + i)
last-found wanted list a m e z i low high rest within behind here =
    rw (last-join wanted list a m z low (omega arith) within, last-join wanted list m e z high rest within, behind, here) refl

-- the next value is the one that is sought, or it is not
pub first-here : (wanted : Bool) (list : List Bool) (a i z : ℕ) → a ≤ i → i < z → z ≤ length list → first_place wanted (slice_range list a i) ≡ None → (bit : Bool) → bit ≡ slice_index_or list i false → beq bit wanted ≡ true → first_place wanted (slice_range list a z) ≡ Some (i - a)
first-here wanted list a i z low high within before bit is same =
    let more : i - a + 0 ≡ i - a = omega arith in
    first-found wanted list a i (i + 1) z 0 low (omega arith) (omega arith) within before (first-one wanted list i (omega arith) ∙ cond-true _ _ _ (subst (λ (b : Bool). beq b wanted ≡ true) is same)) ∙ ap Some more

pub first-not_here : (wanted : Bool) (list : List Bool) (a i : ℕ) → a ≤ i → i < length list → first_place wanted (slice_range list a i) ≡ None → (bit : Bool) → bit ≡ slice_index_or list i false → beq bit wanted ≡ false → first_place wanted (slice_range list a (i + 1)) ≡ None
first-not_here wanted list a i low within before bit is other =
    first-next wanted list a i (i + 1) low (omega arith) (omega arith) before (first-one wanted list i within ∙ cond-false _ _ _ (subst (λ (b : Bool). beq b wanted ≡ false) is other))

-- the same from the back, where the value stands before m
last-one_before : (wanted : Bool) (list : List Bool) (m : ℕ) → 0 < m → m ≤ length list → last_place wanted (slice_range list (m - 1) m) ≡ cond (beq (slice_index_or list (m - 1) false) wanted) (Some 0) None
last-one_before wanted list m some within =
    let back : m - 1 + 1 ≡ m = omega arith in
    subst (λ (e : ℕ). last_place wanted (slice_range list (m - 1) e) ≡ cond (beq (slice_index_or list (m - 1) false) wanted) (Some 0) None) back (last-one wanted list (m - 1) (omega arith))

pub last-here : (wanted : Bool) (list : List Bool) (a m z : ℕ) → a < m → m ≤ z → z ≤ length list → last_place wanted (slice_range list m z) ≡ None → (bit : Bool) → bit ≡ slice_index_or list (m - 1) false → beq bit wanted ≡ true → last_place wanted (slice_range list a z) ≡ Some (m - 1 - a)
last-here wanted list a m z low high within behind bit is same =
    let more : m - 1 - a + 0 ≡ m - 1 - a = omega arith in
    last-found wanted list a (m - 1) m z 0 (omega arith) (omega arith) high within behind (last-one_before wanted list m (omega arith) (omega arith) ∙ cond-true _ _ _ (subst (λ (b : Bool). beq b wanted ≡ true) is same)) ∙ ap Some more

pub last-not_here : (wanted : Bool) (list : List Bool) (m z : ℕ) → 0 < m → m ≤ z → z ≤ length list → last_place wanted (slice_range list m z) ≡ None → (bit : Bool) → bit ≡ slice_index_or list (m - 1) false → beq bit wanted ≡ false → last_place wanted (slice_range list (m - 1) z) ≡ None
last-not_here wanted list m z some high within behind bit is other =
    last-next wanted list (m - 1) m z (omega arith) high within (last-one_before wanted list m some (omega arith) ∙ cond-false _ _ _ (subst (λ (b : Bool). beq b wanted ≡ false) is other)) behind

-- a place that is found lies in the part
pub first-within : (wanted : Bool) (list : List Bool) (a e i : ℕ) → e ≤ length list → first_place wanted (slice_range list a e) ≡ Some i → i < e - a
first-within wanted list a e i within found =
    let long = length-slice_range list a e within in
    let below = first_place-below wanted (slice_range list a e) i found in
    omega arith

pub last-within : (wanted : Bool) (list : List Bool) (a e i : ℕ) → e ≤ length list → last_place wanted (slice_range list a e) ≡ Some i → i < e - a
last-within wanted list a e i within found =
    let long = length-slice_range list a e within in
    let below = last_place-below wanted (slice_range list a e) i found in
    omega arith
