-- Where two words first differ, and the lists whose bits they have.
use Rattle.std.specs.Prelude.{◌≡◌, ◌≢◌, ℕ, ◌+◌, ◌-◌, ◌<◌, ◌≤◌, ◌==◌, min, Bool, true, false, Some, None, List, drop, length, slice_index_or, slice_range, bit_xor, refl}
use Rattle.std.proofs.Common.{arith, sym, ◌∙◌, ap, ⊎_elim, subst}
use Rattle.std.specs.Cmp.Lexicographic.{slice_cmp}
use Rattle.std.specs.Ordering.{bool_cmp}
use Rattle.std.proofs.lemmas.Bool.{cases_lt, false_from_ne_true}
use Rattle.std.proofs.lemmas.Bool.Decides.{nat_tests}
use Rattle.std.proofs.lemmas.List.{get_or-drop, length-drop, places}
use Rattle.bitvec_elements.specs.Difference.{DiffersFrom}
use Rattle.bitvec_base.specs.CompareLaws.{SameBelow, differs-apart, order-differ, same-equal}
use Rattle.bitvec_base.specs.declared.window.Window.{Window}
use Rattle.bitvec_base.specs.Lists.{differs, first_place, same_bits}
use Rattle.bitvec_base.specs.ListsLaws.{get-combined, same_bits-decides}
use Rattle.bitvec_base.specs.Memory.{HasWindow, element_bits, list_in}
use Rattle.bitvec_base.specs.MemoryLaws.{length-element_bits}
use Rattle.bitvec_base.specs.PlacesLaws.{first_place-absent, first_place-before, first_place-below, first_place-bit}
use Rattle.bitvec_base.specs.Window.{window_range}
use Rattle.bitvec_base.specs.WriteLaws.{get-slice_range, length-slice_range}
use Rattle.bitvec_base.specs.WritesLaws.{length-list, list-range}
use Rattle.bitvec_words.specs.ElementLaws.{element-xor}
use Rattle.bitvec_words.specs.ShortWindow.{padded}

-- ---- two bits

alike : (x y : Bool) → differs x y ≢ true → x ≡ y
alike false false same = refl
alike false true same = absurd (same refl)
alike true false same = absurd (same refl)
alike true true same = refl

-- ---- lists with zeros behind them

pub in_padded : (b : ℕ) (list : List Bool) (k : ℕ) → k < length list → slice_index_or (padded b list) k false ≡ slice_index_or list k false
unfolding padded
in_padded b list k inside = grind (arith, places)

pub past_padded : (b : ℕ) (list : List Bool) (k : ℕ) → length list ≤ k → k < b → slice_index_or (padded b list) k false ≡ false
unfolding padded
past_padded b list k behind below = grind (arith, places)

-- ---- two words

module _ (at : ℕ → ℕ → ℕ) (v w n : ℕ) (xs ys : List Bool) (xs-long : length xs ≡ n) (ys-long : length ys ≡ n) (left : element_bits 64 at v ≡ padded 64 xs) (right : element_bits 64 at w ≡ padded 64 ys) where
  word_bit : (k : ℕ) → k < 64 → slice_index_or (element_bits 64 at (bit_xor v w)) k false ≡ differs (slice_index_or (padded 64 xs) k false) (slice_index_or (padded 64 ys) k false)
  word_bit k below =
      let long = length-element_bits 64 at v in
      ap (λ (l : List Bool). slice_index_or l k false) (element-xor 64 at v w)
      ∙ get-combined differs (element_bits 64 at v) (element_bits 64 at w) k false (omega arith)
      ∙ ap (λ (l : List Bool). differs (slice_index_or l k false) (slice_index_or (element_bits 64 at w) k false)) left
      ∙ ap (λ (l : List Bool). differs (slice_index_or (padded 64 xs) k false) (slice_index_or l k false)) right

  same_at : (k : ℕ) → k < n → k < 64 → slice_index_or (element_bits 64 at (bit_xor v w)) k false ≢ true → slice_index_or xs k false ≡ slice_index_or ys k false
  same_at k inside below same =
      sym (in_padded 64 xs k (omega arith))
      ∙ alike _ _ (λ e. same (word_bit k below ∙ e))
      ∙ in_padded 64 ys k (omega arith)

  -- nowhere
  pub words-same : n ≤ 64 → first_place true (element_bits 64 at (bit_xor v w)) ≡ None → (k : ℕ) → k < n → slice_index_or xs k false ≡ slice_index_or ys k false
  words-same fits none k inside =
      let long = length-element_bits 64 at (bit_xor v w) in
      same_at k inside (omega arith) (first_place-absent true (element_bits 64 at (bit_xor v w)) none k (omega arith))

  -- at an index
  module _ (i : ℕ) (found : first_place true (element_bits 64 at (bit_xor v w)) ≡ Some i) where
    found_below : i < 64
    found_below =
        let long = length-element_bits 64 at (bit_xor v w) in
        let below = first_place-below true (element_bits 64 at (bit_xor v w)) i found in
        omega arith

    found_apart : slice_index_or (padded 64 xs) i false ≢ slice_index_or (padded 64 ys) i false
    found_apart = differs-apart _ _ (sym (word_bit i found_below) ∙ first_place-bit true (element_bits 64 at (bit_xor v w)) i found)

    pub words-inside : i < n
    words-inside =
        let below = found_below in
        ⊎_elim (λ (h : i < n). h)
        (λ (behind : n ≤ i). absurd (found_apart (past_padded 64 xs i (omega arith) below ∙ sym (past_padded 64 ys i (omega arith) below))))
        (cases_lt i n)

    pub words-apart : slice_index_or xs i false ≢ slice_index_or ys i false
    words-apart same =
        let inside = words-inside in
        found_apart (in_padded 64 xs i (omega arith) ∙ same ∙ sym (in_padded 64 ys i (omega arith)))

    pub words-before : (k : ℕ) → k < i → slice_index_or xs k false ≡ slice_index_or ys k false
    words-before k before =
        let inside = words-inside in
        let below = found_below in
        same_at k (omega arith) (omega arith) (first_place-before true (element_bits 64 at (bit_xor v w)) i k found before)

-- ---- the lists that they are of

module _ (xs ys : List Bool) (from to : ℕ) (order : from ≤ to) (xs-fits : to ≤ length xs) (ys-fits : to ≤ length ys) (before : SameBelow xs ys from) where
  stretch : (e : ℕ) → from + e ≤ to → ((k : ℕ) → k < e → slice_index_or (slice_range xs from to) k false ≡ slice_index_or (slice_range ys from to) k false) → SameBelow xs ys (from + e)
  stretch e fits same k h =
      ⊎_elim (λ (below : k < from). before k below)
      (λ (behind : from ≤ k).
      let place : from + (k - from) ≡ k = omega arith in
      subst (λ (i : ℕ). slice_index_or xs i false ≡ slice_index_or ys i false) place
      (sym (get-slice_range xs from to (k - from) false (omega arith))
      ∙ same (k - from) (omega arith)
      ∙ get-slice_range ys from to (k - from) false (omega arith)))
      (cases_lt k from)

  module _ (at : ℕ → ℕ → ℕ) (v w : ℕ) (fits : to ≤ from + 64) (left : element_bits 64 at v ≡ padded 64 (slice_range xs from to)) (right : element_bits 64 at w ≡ padded 64 (slice_range ys from to)) where
    pub stretch-same : first_place true (element_bits 64 at (bit_xor v w)) ≡ None → SameBelow xs ys to
    stretch-same none =
        let end : from + (to - from) ≡ to = omega arith in
        subst (SameBelow xs ys) end
        (stretch (to - from) (omega arith) (words-same at v w (to - from) _ _ (length-slice_range xs from to xs-fits) (length-slice_range ys from to ys-fits) left right (omega arith) none))

    pub stretch-apart : (i : ℕ) → first_place true (element_bits 64 at (bit_xor v w)) ≡ Some i → DiffersFrom xs ys (from + i)
    stretch-apart i found =
        let xs-long = length-slice_range xs from to xs-fits in
        let ys-long = length-slice_range ys from to ys-fits in
        let inside = words-inside at v w (to - from) _ _ xs-long ys-long left right i found in
        record {
          same = stretch i (omega arith) (words-before at v w (to - from) _ _ xs-long ys-long left right i found);
          bound = omega arith;
          differs = λ more same. words-apart at v w (to - from) _ _ xs-long ys-long left right i found
              (get-slice_range xs from to i false (omega arith) ∙ same ∙ sym (get-slice_range ys from to i false (omega arith)));
        }

-- ---- windows of two memories

module _ (b d : ℕ) (at other way : ℕ → ℕ → ℕ) (xs ys : List ℕ) (window right_window : Window) (has : HasWindow b xs window) (right_has : HasWindow d ys right_window) (from to : ℕ) (order : from ≤ to) (bound : to ≤ min window.len right_window.len) (fits : to ≤ from + 64)
    (before : SameBelow (list_in b at xs window) (list_in d other ys right_window) from) (v w : ℕ) (left : element_bits 64 way v ≡ padded 64 (list_in b at xs (window_range window from to))) (right : element_bits 64 way w ≡ padded 64 (list_in d other ys (window_range right_window from to))) where
  left_part : element_bits 64 way v ≡ padded 64 (slice_range (list_in b at xs window) from to)
  left_part = left ∙ ap (padded 64) (list-range at from to has order (omega arith))

  right_part : element_bits 64 way w ≡ padded 64 (slice_range (list_in d other ys right_window) from to)
  right_part = right ∙ ap (padded 64) (list-range other from to right_has order (omega arith))

  pub windows-same : first_place true (element_bits 64 way (bit_xor v w)) ≡ None → SameBelow (list_in b at xs window) (list_in d other ys right_window) to
  windows-same none =
      let long = length-list at has in
      let right_long = length-list other right_has in
      stretch-same _ _ from to order (omega arith) (omega arith) before way v w fits left_part right_part none

  pub windows-apart : (i : ℕ) → first_place true (element_bits 64 way (bit_xor v w)) ≡ Some i → DiffersFrom (list_in b at xs window) (list_in d other ys right_window) (from + i)
  windows-apart i found =
      let long = length-list at has in
      let right_long = length-list other right_has in
      stretch-apart _ _ from to order (omega arith) (omega arith) before way v w fits left_part right_part i found

-- ---- equality and order by it

pub common-all : (xs ys : List Bool) (n m : ℕ) → length xs ≡ m → length ys ≡ m → DiffersFrom xs ys n → (n == m) ≡ same_bits xs ys
common-all xs ys n m left right from =
    let most = from.bound in
    ⊎_elim
    (λ (less : n < m).
    let unequal : (n == m) ≡ false = grind (arith, nat_tests) in
    unequal ∙ sym (false_from_ne_true _ (λ e. from.differs (omega arith) (ap (λ (l : List Bool). slice_index_or l n false) ((same_bits-decides xs ys).0 e)))))
    (λ (more : m ≤ n).
    let equal : (n == m) ≡ true = grind (arith, nat_tests) in
    equal ∙ same-equal xs ys m left right (λ k h. from.same k (omega arith)))
    (cases_lt n m)

told : (x y : Bool) → x ≢ y → differs x y ≡ true
told false false apart = absurd (apart refl)
told false true apart = refl
told true false apart = refl
told true true apart = absurd (apart refl)

pub common-differ : {xs ys : List Bool} {n : ℕ} {x y : Bool} → DiffersFrom xs ys n → n < min (length xs) (length ys) → x ≡ slice_index_or xs n false → y ≡ slice_index_or ys n false → bool_cmp x y ≡ slice_cmp bool_cmp xs ys
common-differ {xs} {ys} {n} {x} {y} from more left right =
    order-differ xs ys n (omega arith) (omega arith) from.same left right (told x y (λ e. from.differs more (sym left ∙ e ∙ right)))

-- what is behind equal bits differs as far on
pub differs-behind : {xs ys : List Bool} (from : ℕ) {n : ℕ} → from ≤ min (length xs) (length ys) → SameBelow xs ys from → DiffersFrom (drop from xs) (drop from ys) n → DiffersFrom xs ys (from + n)
differs-behind {xs} {ys} from {n} inside same behind =
    let most = behind.bound in
    let left = length-drop from xs in
    let right = length-drop from ys in
    record {
      same = λ k below. ⊎_elim (λ (before : k < from). same k before)
          (λ (after : from ≤ k).
          let place : from + (k - from) ≡ k = omega arith in
          ap (λ (m : ℕ). slice_index_or xs m false) (sym place) ∙ sym (get_or-drop from xs (k - from) false) ∙ behind.same (k - from) (omega arith) ∙ get_or-drop from ys (k - from) false ∙ ap (λ (m : ℕ). slice_index_or ys m false) place)
          (cases_lt k from);
      bound = omega arith;
      differs = λ more e. behind.differs (omega arith) (get_or-drop from xs n false ∙ e ∙ sym (get_or-drop from ys n false));
    }
