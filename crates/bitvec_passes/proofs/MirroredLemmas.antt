-- Elements in the opposite order, each mirrored, at the end of an array.
use Rattle.std.proofs.Common.{◌≡◌, ℕ, zero, suc, ◌+◌, ◌-◌, ◌*◌, ◌/◌, ◌%◌, ◌<◌, ◌≤◌, ◌++◌, Bool, List, length, reverse, slice_index, slice_range, slice_set, arith, rules, ap, sym, ◌∙◌, refl}
use Rattle.std.proofs.lemmas.List.{same_lists, places, get_or-reverse, length-reverse, reverse-append}
use Rattle.std.proofs.lemmas.Nat.{div-add-mod', div_below, mod_below}
use Rattle.std.proofs.Math.Nat.{mul-le-mul_left}
use Rattle.bitvec_base.specs.declared.window.Window.{Window}
use Rattle.bitvec_base.specs.Memory.{HasWindow, Writes, element_bits, list_in}
use Rattle.bitvec_base.specs.MemoryLaws.{element_fits}
use Rattle.bitvec_base.specs.Window.{max_bits, window_range}
use Rattle.bitvec_base.specs.WritesLaws.{HasWindow-kept, Writes-holds, Writes-is, length-list, list-join, list-range}
use Rattle.bitvec_words.specs.Elements.{elements_window, elements_window_from}
use Rattle.bitvec_words.specs.FieldLaws.{Writes-element, element_of, list-whole}
use Rattle.bitvec_words.specs.WholeLaws.{list-same}
use Rattle.bitvec_passes.specs.Ends.{HoldsBeside, IsAmid}
use Rattle.bitvec_words.specs.Moves.{CopiesElements, HasSkippedElements}

-- one element more, behind those that were, where that of the memory stands before those
pub mirrored-element : {b : ℕ} {at : ℕ → ℕ → ℕ} {xs held old : List ℕ} (from count step first v : ℕ) → 0 < b → HasWindow b xs (elements_window b from count) → step < count
    → HasWindow b old (elements_window b first (step + 1))
    → element_bits b at v ≡ reverse (element_bits b at (slice_index old first))
    → Writes b at xs held (elements_window b from step) (reverse (list_in b at old (elements_window b (first + 1) step)))
    → Writes b at xs (slice_set held (from + step) v) (elements_window b from (step + 1)) (reverse (list_in b at old (elements_window b first (step + 1))))
mirrored-element {b} {at} {xs} {held} {old} from count step first v some room more has made before =
    let start = has.within.start in
    let len = has.within.len in
    let inside : first < length old = element_of b first 0 (length old) (omega arith) in
    let one : Window = record { start = first * b; len = b } in
    let rest = list_in b at old (elements_window b (first + 1) step) in
    Writes-is
    (Writes-element from count step v some room more before)
    (ap (λ (l : List Bool). reverse rest ++ l) (made ∙ ap reverse (sym (list-whole b at old first inside)))
    ∙ sym (reverse-append (list_in b at old one) rest)
    ∙ ap reverse (list-join at one (elements_window b (first + 1) step) has refl (omega arith) (omega arith)))

range-reversed : (list : List Bool) (s t b : ℕ) → s + t + b ≡ length list
    → reverse (slice_range list t (t + b)) ≡ slice_range (reverse list) s (s + b)
range-reversed list s t b all = same_lists _ _ (search (rules, places, length-reverse)) (λ i d inside. grind (arith, places, get_or-reverse, length-reverse))

-- a window of some elements
pub mirrored-window : {b : ℕ} (at : ℕ → ℕ → ℕ) {xs old : List ℕ} (k first n : ℕ) (window mirrored : Window) → HasWindow b xs (elements_window b k n)
    → HasWindow b old (elements_window b first n) → first * b ≤ window.start → window.start + window.len ≤ first * b + n * b
    → mirrored.len ≡ window.len → mirrored.start + window.start + window.len ≡ k * b + first * b + n * b
    → list_in b at xs (elements_window b k n) ≡ reverse (list_in b at old (elements_window b first n))
    → list_in b at xs mirrored ≡ reverse (list_in b at old window)
mirrored-window {b} at {xs} {old} k first n window mirrored room has from to long place all =
    let low : ℕ = mirrored.start - k * b in
    let skip : ℕ = window.start - first * b in
    let len = window.len in
    let list = list_in b at old (elements_window b first n) in
    let size = length-list at has in
    list-same b at xs (window_range (elements_window b k n) low (low + len)) mirrored (omega arith) (omega arith)
    ∙ list-range at low (low + len) room (omega arith) (omega arith)
    ∙ ap (λ (l : List Bool). slice_range l low (low + len)) all
    ∙ sym (range-reversed list low skip len (omega arith))
    ∙ ap reverse (sym (list-same b at old (window_range (elements_window b first n) skip (skip + len)) window (omega arith) (omega arith)
    ∙ list-range at skip (skip + len) has (omega arith) (omega arith)))

pub held-some : {b n : ℕ} (most : ℕ) → HoldsBeside b n most → 0 < n → 0 < most
held-some zero held some = absurd (let room = held.room in omega arith)
held-some (suc most) held some = omega arith

-- elements of an array
pub held-room : (b : ℕ) (xs : List ℕ) (k n most : ℕ) → k + n ≤ most → length xs ≡ most → b * most ≤ max_bits → HasWindow b xs (elements_window b k n)
held-room b xs k n most inside long fits =
    let same = ap (λ (m : ℕ). b * m) long in
    let order = mul-le-mul_left b inside in
    record { fits = omega arith; within = record { start = omega arith; len = omega arith } }

-- a window of n bits that ends `skip` bits before the last element of an array
pub held-amid : {b : ℕ} (xs : List ℕ) {n : ℕ} (skip : ℕ) {most : ℕ} (place : Window) → 0 < n → skip < b → length xs ≡ most → HoldsBeside b n most
    → place.len ≡ n → place.start ≡ b * (most - 1) - skip - n → IsAmid b xs place
held-amid {b} xs {n} skip {most} place some below long held len start =
    let room = held.room in
    let same = ap (λ (m : ℕ). b * m) long in
    let positive : 0 < most = held-some most held some in
    let sum : b * most ≡ b * (most - 1) + b = ap (λ (m : ℕ). b * m) (let e : most ≡ most - 1 + 1 = omega arith in e) ∙ omega arith in
    let fits = held.fits in
    record {
      window = record { fits = omega arith; within = record { start = omega arith; len = omega arith } };
      some = omega arith;
      before = omega arith;
      behind = omega arith;
    }

-- elements from the one with a window's first bit up to the one with its last bit
pub record IsTouched (b s n first count : ℕ) : Type 0 where
  pub start : first * b ≤ s
  pub end : s + n ≤ first * b + count * b
  pub least : first * b + count * b < s + n + b

pub touched-window : {b s n first count : ℕ} → 0 < b → 0 < n → first ≡ s / b → count ≡ (s % b + n - 1) / b + 1 → IsTouched b s n first count
touched-window {b} {s} {n} some more place all =
    let from = div-add-mod' s b in
    let below = mod_below s b some in
    let parts = div-add-mod' (s % b + n - 1) b in
    let last = mod_below (s % b + n - 1) b some in
    rw (place, all) (record { start = omega arith; end = omega arith; least = omega arith })

-- with room for three elements more, at least one stays free
pub touched-beside : {b : ℕ} (s : ℕ) {n count most : ℕ} → 0 < b → 0 < n → count ≡ (s % b + n - 1) / b + 1 → HoldsBeside b n most → count < most
touched-beside {b} s {n} {most = most} some more all held =
    let room = held.room in
    let below = mod_below s b some in
    let positive = held-some most held more in
    let sum : b * most ≡ b * (most - 1) + b = ap (λ (n : ℕ). b * n) (let e : most ≡ most - 1 + 1 = omega arith in e) ∙ omega arith in
    let inside : (s % b + n - 1) / b < most - 1 = div_below (s % b + n - 1) b (most - 1) some (omega arith) in
    omega arith

pub touched-has : {b : ℕ} {xs : List ℕ} {window : Window} {first count : ℕ} → HasWindow b xs window → 0 < count → IsTouched b window.start window.len first count → HasWindow b xs (elements_window b first count)
touched-has {b} {xs} {window} {first} {count} has some touched =
    let start = has.within.start in
    let len = has.within.len in
    let least = touched.least in
    let last : ℕ = first + count - 1 in
    let sum : (first + count) * b ≡ (last + 1) * b = ap (λ (m : ℕ). m * b) (omega arith) in
    let inside : last < length xs = element_of b last 0 (length xs) (omega arith) in
    let fit = element_fits b last (length xs) inside in
    record { fits = has.fits; within = record { start = omega arith; len = omega arith } }

-- the last n of some elements
pub last-has : {b : ℕ} {xs : List ℕ} (first count n : ℕ) → HasWindow b xs (elements_window b first count) → n ≤ count → HasWindow b xs (elements_window b (first + (count - n)) n)
last-has {b} first count n has bound =
    let start = has.within.start in
    let len = has.within.len in
    let sum : (first + count) * b ≡ (first + (count - n)) * b + n * b = ap (λ (m : ℕ). m * b) (let e : first + count ≡ first + (count - n) + n = omega arith in e) ∙ omega arith in
    record { fits = has.fits; within = record { start = omega arith; len = omega arith } }

-- ---- elements moved toward the start of an array

-- the elements that a window will touch, `by` bits nearer to the start
pub amid-elements : {b : ℕ} {xs : List ℕ} {place : Window} (s by : ℕ) {first count : ℕ} → first ≡ s / b → count ≡ (s % b + place.len - 1) / b + 1 → IsAmid b xs place → 0 < by → by < b → s + by ≡ place.start
    → HasSkippedElements b xs xs first first by count
amid-elements {b} {xs} {place} s by {first} {count} from all amid some below moved =
    let behind = amid.behind in
    let has = amid.window in
    let touched = touched-window (omega arith) amid.some from all in
    let least = touched.least in
    record {
      span = record {
        window = record { fits = has.fits; within = record { start = omega arith; len = omega arith } };
        beside = record { fits = has.fits; within = record { start = omega arith; len = omega arith } };
        lengths = refl;
      };
      inside = some;
      bound = below;
    }

-- once they are moved, it has the bits that it had
pub amid-moved : {b : ℕ} (at : ℕ → ℕ → ℕ) {xs : List ℕ} (new : List ℕ) {place : Window} (to : Window) (s by : ℕ) {first count : ℕ} → first ≡ s / b → count ≡ (s % b + place.len - 1) / b + 1 → IsAmid b xs place → 0 < by → by < b → s + by ≡ place.start
    → to.start ≡ s → to.len ≡ place.len → CopiesElements b at xs new xs first first by count
    → list_in b at new to ≡ list_in b at xs place
amid-moved {b} at {xs} new {place} to s by {first} {count} place_is all amid some below moved start len writes =
    let skipped = amid-elements s by place_is all amid some below moved in
    let touched = touched-window (omega arith) amid.some place_is all in
    let low : ℕ = s - first * b in
    let from = touched.start in
    let end = touched.end in
    let has = skipped.span.window in
    let kept = HasWindow-kept new has writes.elements in
    list-same b at new (window_range (elements_window b first count) low (low + to.len)) to (omega arith) (omega arith)
    ∙ list-range at low (low + to.len) kept (omega arith) (omega arith)
    ∙ ap (λ (l : List Bool). slice_range l low (low + to.len)) (Writes-holds has writes)
    ∙ sym (list-same b at xs (window_range (elements_window_from b first by count) low (low + to.len)) place (omega arith) (omega arith)
    ∙ list-range at low (low + to.len) skipped.span.beside (omega arith) (omega arith))
