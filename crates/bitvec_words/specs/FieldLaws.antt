-- The bits of a window within one element or two, and of whole elements, as lists of bits of elements.
use Rattle.std.specs.Prelude.{◌≡◌, ℕ, ◌+◌, ◌-◌, ◌*◌, ◌/◌, ◌%◌, ◌<◌, ◌≤◌, Bool, false, List, ◌++◌, length, take, drop, replicate, slice_range, slice_set, slice_index, min, refl}
use Rattle.std.proofs.Common.{arith, rules, sym, ◌∙◌, ap}
use Rattle.std.proofs.Math.Nat.{mul-le-mul_left}
use Rattle.std.proofs.lemmas.List.{same_lists, places, length-set}
use Rattle.std.proofs.lemmas.Nat.{div-add-mod'}
use Rattle.bitvec_base.specs.declared.part.Part.{Part}
use Rattle.bitvec_base.specs.declared.window.Window.{Window}
use Rattle.bitvec_base.specs.Lists.{shifted_end, shifted_start}
use Rattle.bitvec_base.specs.Memory.{HasWindow, Writes, element_bits, list_in, memory_bits}
use Rattle.bitvec_base.specs.MemoryLaws.{element-range, element_fits, length-element_bits, length-memory_bits, set-element}
use Rattle.bitvec_base.specs.PartLaws.{part-range, part-write}
use Rattle.bitvec_base.specs.Parts.{HasPart, first_part_of, part_window}
use Rattle.bitvec_base.specs.SliceLaws.{range-all, range-none}
use Rattle.bitvec_base.specs.Window.{window_after, window_of, window_until, write_at}
use Rattle.bitvec_base.specs.WriteLaws.{length-slice_range, write_at-all}
use Rattle.bitvec_base.specs.WritesLaws.{Writes-empty, Writes-is, Writes-join, list-join}
use Rattle.bitvec_cells.specs.WalkLaws.{first-place}
use Rattle.bitvec_words.specs.Elements.{elements_window}

-- ---- lists

-- the beginning of a slice without its first k values, and of two slices
front : (list : List Bool) (a b k n : ℕ) → k + n ≤ b → a + b ≤ length list → take n (drop k (slice_range list a (a + b)) ++ replicate k false) ≡ slice_range list (a + k) (a + k + n)
front list a b k n fits inside = same_lists _ _ (search (rules, places)) (λ i d below. grind (arith, places))

across : (list : List Bool) (a b k n : ℕ) → k ≤ b → n ≤ b → b < k + n → a + k + n ≤ length list → a + b + b ≤ length list → take n (drop k (slice_range list a (a + b)) ++ take k (slice_range list (a + b) (a + b + b))) ≡ slice_range list (a + k) (a + k + n)
across list a b k n low high over inside second = same_lists _ _ (search (rules, places)) (λ i d below. grind (arith, places))

meeting : (list : List Bool) (a b k : ℕ) → k ≤ b → a + b + b ≤ length list → drop k (slice_range list a (a + b)) ++ take k (slice_range list (a + b) (a + b + b)) ≡ slice_range list (a + k) (a + k + b)
meeting list a b k low inside = same_lists _ _ (search (rules, places)) (λ i d below. grind (arith, places))

-- the beginning of a list, moved towards the end
pub range-shifted : (list : List Bool) (k n e : ℕ) → e ≡ k + n → e ≤ length list → slice_range (shifted_end k list) k e ≡ take n list
unfolding shifted_end
range-shifted list k n e end inside = same_lists _ _ (search (rules, places)) (λ i d below. grind (arith, places))

-- an element that has a place of the memory
pub element_of : (b e k n : ℕ) → e * b + k < b * n → e < n
element_of b e k n below = grind arith

-- ---- fields

-- the bits of a window of one element, moved to its start
pub list-front : {b : ℕ} (at : ℕ → ℕ → ℕ) {xs : List ℕ} {window : Window} → 0 < b → HasWindow b xs window → 0 < window.len → window.start % b + window.len ≤ b
    → take window.len (shifted_start (window.start % b) (element_bits b at (slice_index xs (window.start / b)))) ≡ list_in b at xs window
unfolding shifted_start window_of
list-front {b} at {xs} {window} some has more fits =
    let e : ℕ = window.start / b in
    let k : ℕ = window.start % b in
    let whole = length-memory_bits b at xs in
    let start = has.within.start in
    let len = has.within.len in
    let place = div-add-mod' window.start b in
    let inside : e < length xs = element_of b e k (length xs) (omega arith) in
    let fit = element_fits b e (length xs) inside in
    rw (← element-range b at xs e inside)
    (front (memory_bits b at xs) (e * b) b k window.len fits (omega arith)
    ∙ ap (λ (s : ℕ). slice_range (memory_bits b at xs) s (s + window.len)) place)

-- the bits of a window of two elements, joined
pub list-across : {b : ℕ} (at : ℕ → ℕ → ℕ) {xs : List ℕ} {window : Window} → 0 < b → HasWindow b xs window → window.len ≤ b → b < window.start % b + window.len
    → take window.len (drop (window.start % b) (element_bits b at (slice_index xs (window.start / b))) ++ take (window.start % b) (element_bits b at (slice_index xs (window.start / b + 1)))) ≡ list_in b at xs window
unfolding window_of
list-across {b} at {xs} {window} some has fits over =
    let e : ℕ = window.start / b in
    let k : ℕ = window.start % b in
    let whole = length-memory_bits b at xs in
    let start = has.within.start in
    let len = has.within.len in
    let place = div-add-mod' window.start b in
    let inside : e < length xs = element_of b e k (length xs) (omega arith) in
    let next : e + 1 < length xs = element_of b (e + 1) (k + window.len - b - 1) (length xs) (omega arith) in
    let second = element_fits b (e + 1) (length xs) next in
    let third : (e + 1) * b ≡ e * b + b = omega arith in
    let after = rw third at (element-range b at xs (e + 1) next) in
    rw (← element-range b at xs e inside, ← after)
    (across (memory_bits b at xs) (e * b) b k window.len (omega arith) fits over (omega arith) (omega arith)
    ∙ ap (λ (s : ℕ). slice_range (memory_bits b at xs) s (s + window.len)) place)

-- a part of an element, as a window
pub list-part : {b : ℕ} (at : ℕ → ℕ → ℕ) {xs : List ℕ} {part : Part} → HasPart b xs part → list_in b at xs (part_window b part) ≡ slice_range (element_bits b at (slice_index xs part.element)) part.from part.to
unfolding window_of
list-part {b} at {xs} {part} has = grind (arith, part-range b at xs part.element part.from part.to)

-- an element that takes a part's bits from another
pub part-stored : {b : ℕ} (at : ℕ → ℕ → ℕ) {xs : List ℕ} {part : Part} (v w : ℕ) → 0 < b → HasPart b xs part
    → element_bits b at w ≡ write_at (element_bits b at (slice_index xs part.element)) part.from (slice_range (element_bits b at v) part.from part.to)
    → Writes b at xs (slice_set xs part.element w) (part_window b part) (slice_range (element_bits b at v) part.from part.to)
part-stored {b} at {xs} {part} v w some has wrote =
    let bound = has.bound in
    let long = length-slice_range (element_bits b at v) part.from part.to (omega (arith, length-element_bits)) in
    record {
      bits = part-write b at xs part.element part.from part.to w _ some has.element has.order has.bound long wrote;
      long = long;
      elements = length-set xs part.element w;
    }

-- a part that is a whole element takes them all
pub part-all : {b : ℕ} {at : ℕ → ℕ → ℕ} {xs : List ℕ} {part : Part} (v : ℕ) → 0 < b → HasPart b xs part → part.to - part.from ≡ b
    → Writes b at xs (slice_set xs part.element v) (part_window b part) (slice_range (element_bits b at v) part.from part.to)
part-all {b} {at} {xs} {part} v some has all =
    let old = length-element_bits b at (slice_index xs part.element) in
    let new = length-element_bits b at v in
    let first : part.from ≡ 0 = omega arith in
    let last : part.to ≡ b = omega arith in
    let same : slice_range (element_bits b at v) part.from part.to ≡ element_bits b at v = rw (first, last) (range-all (element_bits b at v) b (omega arith)) in
    part-stored at v v some has
    (sym (ap (λ (l : List Bool). write_at (element_bits b at (slice_index xs part.element)) part.from l) same
    ∙ ap (λ (s : ℕ). write_at (element_bits b at (slice_index xs part.element)) s (element_bits b at v)) first
    ∙ write_at-all (element_bits b at (slice_index xs part.element)) (element_bits b at v) (omega arith)))

-- ---- whole elements

-- nothing
pub Writes-none : {b : ℕ} (at : ℕ → ℕ → ℕ) {xs : List ℕ} (ys : List ℕ) {window : Window} (other : Window) → HasWindow b xs window → window.len ≡ 0 → other.len ≡ 0 → Writes b at xs xs window (list_in b at ys other)
unfolding window_of
Writes-none {b} at {xs} ys {window} other has empty none =
    Writes-is
    (Writes-empty at xs has empty refl)
    (sym (range-none (memory_bits b at ys) other.start (other.start + other.len) (omega arith)))

-- no element
pub Writes-no_element : {b : ℕ} {at : ℕ → ℕ → ℕ} {xs : List ℕ} (ys : List ℕ) (first count : ℕ) (none : Window) → HasWindow b xs (elements_window b first count) → none.len ≡ 0 → Writes b at xs xs (elements_window b first 0) (list_in b at ys none)
Writes-no_element {b} {at} {xs} ys first count none has empty =
    let nothing : 0 * b ≡ 0 = omega arith in
    Writes-none {b = b} at {xs = xs} ys {window = elements_window b first 0} none (record { fits = has.fits; within = record { start = has.within.start; len = omega arith } }) nothing empty

-- one element more, stored behind those that were
pub Writes-element : {b : ℕ} {at : ℕ → ℕ → ℕ} {old mid : List ℕ} (first count step v : ℕ) {list : List Bool} → 0 < b → HasWindow b old (elements_window b first count) → step < count
    → Writes b at old mid (elements_window b first step) list
    → Writes b at old (slice_set mid (first + step) v) (elements_window b first (step + 1)) (list ++ element_bits b at v)
Writes-element {b} {at} {old} {mid} first count step v {list} some has more before =
    let len = has.within.len in
    let kept = before.elements in
    let order = mul-le-mul_left b more in
    let inside : first + step < length mid = element_of b (first + step) 0 (length mid) (rw kept (omega arith)) in
    let one : Window = record { start = (first + step) * b; len = b } in
    Writes-join {b = b} {at = at} {old = old} {mid = mid} {new = slice_set mid (first + step) v} {first = elements_window b first step} {second = one} {whole = elements_window b first (step + 1)} {list = list} {other = element_bits b at v}
    (record { fits = has.fits; within = record { start = has.within.start; len = omega arith } })
    refl (omega arith) (omega arith) before
    (record {
      bits = set-element b at mid (first + step) v some inside;
      long = length-element_bits b at v;
      elements = length-set mid (first + step) v;
    })

-- the bits of one element, and of two from an index on
pub list-whole : (b : ℕ) (at : ℕ → ℕ → ℕ) (xs : List ℕ) (e : ℕ) → e < length xs → list_in b at xs (record { start = e * b; len = b }) ≡ element_bits b at (slice_index xs e)
unfolding window_of
list-whole b at xs e inside = element-range b at xs e inside

pub list-both : (b : ℕ) (at : ℕ → ℕ → ℕ) (xs : List ℕ) (e skip : ℕ) → skip < b → e + 1 < length xs → list_in b at xs (record { start = e * b + skip; len = b }) ≡ drop skip (element_bits b at (slice_index xs e)) ++ take skip (element_bits b at (slice_index xs (e + 1)))
unfolding window_of
list-both b at xs e skip below next =
    let whole = length-memory_bits b at xs in
    let second = element_fits b (e + 1) (length xs) next in
    let third : (e + 1) * b ≡ e * b + b = omega arith in
    let after = rw third at (element-range b at xs (e + 1) next) in
    rw (← element-range b at xs e (omega arith), ← after)
    (sym (meeting (memory_bits b at xs) (e * b) b skip (omega arith) (omega arith)))

-- the bits of one element more
pub list-element : {b : ℕ} (at : ℕ → ℕ → ℕ) {xs : List ℕ} (first count step : ℕ) → 0 < b → HasWindow b xs (elements_window b first count) → step < count
    → list_in b at xs (elements_window b first step) ++ element_bits b at (slice_index xs (first + step)) ≡ list_in b at xs (elements_window b first (step + 1))
list-element {b} at {xs} first count step some has more =
    let len = has.within.len in
    let order = mul-le-mul_left b more in
    let inside : first + step < length xs = element_of b (first + step) 0 (length xs) (omega arith) in
    let one : Window = record { start = (first + step) * b; len = b } in
    ap (λ (l : List Bool). list_in b at xs (elements_window b first step) ++ l) (sym (list-whole b at xs (first + step) inside))
    ∙ list-join {b = b} at {xs = xs} (elements_window b first step) one {whole = elements_window b first (step + 1)}
    (record { fits = has.fits; within = record { start = has.within.start; len = omega arith } })
    refl (omega arith) (omega arith)

-- ---- a window by the part of its first element, of t places, and what is left

pub Writes-head : {b : ℕ} {at : ℕ → ℕ → ℕ} {old mid new : List ℕ} {window : Window} {t : ℕ} {list other : List Bool} → 0 < b → 0 < window.len → t ≡ (first_part_of b window).to - (first_part_of b window).from → HasWindow b old window
    → Writes b at old mid (part_window b (first_part_of b window)) list → Writes b at mid new (window_after t window) other → Writes b at old new window (list ++ other)
Writes-head {b} {at} {old} {mid} {new} {window} {t} {list} {other} some more part has before after =
    let place = first-place b window in
    Writes-join has place (omega arith) (omega arith) before after

-- the first t bits of a window, and the others
pub list-parted : {b : ℕ} (at : ℕ → ℕ → ℕ) {xs : List ℕ} {window : Window} (t : ℕ) → HasWindow b xs window → t ≤ window.len
    → list_in b at xs (window_until (window.len - t) window) ++ list_in b at xs (window_after t window) ≡ list_in b at xs window
list-parted {b} at {xs} {window} t has fits = list-join at (window_until (window.len - t) window) (window_after t window) has refl (omega arith) (omega arith)

-- how many bits the first part has, where the width is told in another way
pub first_part-long : {t b w : ℕ} (window : Window) {part : Part} → t ≡ part.to - part.from → part ≡ first_part_of w window → w ≡ b → t ≡ min window.len (b - window.start % b)
first_part-long window step is width =
    step ∙ ap (λ (p : Part). p.to - p.from) is ∙ ap (λ (n : ℕ). (first_part_of n window).to - (first_part_of n window).from) width ∙ omega arith
