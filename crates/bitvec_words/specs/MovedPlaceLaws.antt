-- Where elements, parts and windows lie, as calls need it. Some take a width as `w`, the number in the code, which is `b`.
use Rattle.std.proofs.Common.{◌≡◌, ◌≢◌, ℕ, ◌+◌, ◌-◌, ◌*◌, ◌/◌, ◌%◌, ◌^◌, ◌<◌, ◌≤◌, min, List, length, refl, arith}
use Rattle.std.proofs.Math.Nat.{mul-le-mul_left}
use Rattle.bitvec_base.specs.declared.part.Part.{Part}
use Rattle.bitvec_base.specs.declared.window.Window.{Window}
use Rattle.bitvec_base.specs.Memory.{HasWindow}
use Rattle.bitvec_base.specs.Parts.{HasPart, first_part_of, tail_part_of}
use Rattle.bitvec_base.specs.Spans.{HasSpan}
use Rattle.bitvec_base.specs.Window.{window_after}
use Rattle.bitvec_store.specs.Width.{IsWidth}
use Rattle.bitvec_store.specs.WidthLaws.{width_some}
use Rattle.bitvec_cells.specs.WalkLaws.{Walked-start}
use Rattle.bitvec_words.specs.Elements.{elements_window, elements_window_from}
use Rattle.bitvec_words.specs.FieldLaws.{element_of}
use Rattle.bitvec_words.specs.PartWalkLaws.{HasPart-first}
use Rattle.bitvec_words.specs.TouchedLaws.{head_edge}
use Rattle.bitvec_words.specs.Moves.{HasPartSpan}
use Rattle.bitvec_words.specs.WordLaws.{fits-word}

pub head-part : (b w : ℕ) (xs : List ℕ) (window : Window) (part : Part) → IsWidth b → w ≡ b → part ≡ first_part_of w window → 0 < window.len → HasWindow b xs window
    → HasPart b xs part
head-part b w xs window part width is made more has = rw (made, is) (HasPart-first (width_some b width) more has (Walked-start b window))

pub head-element : {b w : ℕ} {xs : List ℕ} {window : Window} → IsWidth b → w ≡ b → 0 < window.len → HasWindow b xs window → window.start / w < length xs
head-element {b} {w} {xs} {window} width is more has = rw is ((HasPart-first (width_some b width) more has (Walked-start b window)).element)

pub behind-edge : (b : ℕ) {t : ℕ} (window : Window) {rest : Window} → IsWidth b → rest ≡ window_after t window → t ≡ min window.len (b - window.start % b) → t ≢ window.len → rest.start % b ≡ 0
behind-edge b {t} window width made long left = rw made (head_edge b window.start t window.len (width_some b width) long left)

-- ---- whole elements of a window, as many as n bits have, and what is behind them

pub whole-window : {b w : ℕ} {xs : List ℕ} {window : Window} (n : ℕ) → IsWidth b → w ≡ b → HasWindow b xs window → window.start % b ≡ 0 → n ≤ window.len
    → HasWindow b xs (elements_window b (window.start / w) (n / w))
whole-window n width is has edge short =
    let start = has.within.start in
    let len = has.within.len in
    rw is (record { fits = has.fits; within = record { start = omega arith; len = omega arith } })

pub whole-window_from : {b w : ℕ} {xs : List ℕ} {window : Window} (n : ℕ) → IsWidth b → w ≡ b → HasWindow b xs window → n ≤ window.len
    → HasWindow b xs (elements_window_from b (window.start / w) (window.start % w) (n / w))
whole-window_from n width is has short =
    let start = has.within.start in
    let len = has.within.len in
    rw is (record { fits = has.fits; within = record { start = omega arith; len = omega arith } })

pub whole-span : {b : ℕ} {xs ys : List ℕ} {left right : Window} → IsWidth b → HasSpan b xs ys left right → left.start % b ≡ 0 → right.start % b ≡ 0
    → HasSpan b xs ys (elements_window b (left.start / b) (left.len / b)) (elements_window b (right.start / b) (left.len / b))
whole-span {b} {xs} {ys} {left} {right} width span edge right_edge =
    let lengths = span.lengths in
    record {
      window = whole-window left.len width refl span.window edge (omega arith);
      beside = whole-window left.len width refl span.beside right_edge (omega arith);
      lengths = refl;
    }

pub whole-span_from : {b : ℕ} {xs ys : List ℕ} {left right : Window} → IsWidth b → HasSpan b xs ys left right → left.start % b ≡ 0
    → HasSpan b xs ys (elements_window b (left.start / b) (left.len / b)) (elements_window_from b (right.start / b) (right.start % b) (left.len / b))
whole-span_from {b} {xs} {ys} {left} {right} width span edge =
    let lengths = span.lengths in
    record {
      window = whole-window left.len width refl span.window edge (omega arith);
      beside = whole-window_from left.len width refl span.beside (omega arith);
      lengths = refl;
    }

pub tail-inside : {b w : ℕ} {xs : List ℕ} {window : Window} (n : ℕ) → IsWidth b → w ≡ b → HasWindow b xs window → n ≤ window.len → 0 < n % w
    → window.start / w + n / w < length xs
tail-inside {b} {w} {xs} {window} n width is has short left =
    let start = has.within.start in
    let more = rw is at left in
    rw is (element_of b (window.start / b + n / b) 0 (length xs) (omega arith))

pub tail-part : {b : ℕ} {xs : List ℕ} (ys : List ℕ) {window : Window} (n : ℕ) → IsWidth b → HasWindow b xs window → n ≤ window.len → 0 < n % b
    → length ys ≡ length xs
    → HasPart b ys (record { element = window.start / b + n / b; from = 0; to = n % b })
tail-part {b} {xs} ys {window} n width has short left same =
    let inside = tail-inside n width refl has short left in
    record { element = omega arith; order = omega arith; bound = omega arith }

pub tail-span : {b : ℕ} {xs mid ys : List ℕ} {left right : Window} → IsWidth b → HasSpan b xs ys left right → 0 < left.len % b → length mid ≡ length xs
    → HasPartSpan b mid ys (tail_part_of b left) (window_after (left.len / b * b) right)
tail-span {b} {xs} {mid} {ys} {left} width span more same =
    let lengths = span.lengths in
    let start = span.beside.within.start in
    let len = span.beside.within.len in
    record {
      element = tail-part mid left.len width span.window (omega arith) more same;
      beside = record { fits = span.beside.fits; within = record { start = omega arith; len = omega arith } };
      lengths = omega arith;
      some = omega arith;
    }

-- ---- an element of a window of whole elements, and the next one where the window begins inside an element

pub next-inside : (b : ℕ) (xs ys : List ℕ) (first skip count i : ℕ) → HasWindow b xs (elements_window_from b first skip count) → 0 < skip → i < count → length ys ≡ length xs
    → first + i + 1 < length ys
next-inside b xs ys first skip count i has some more same =
    rw same (element_of b (first + i + 1) (skip - 1) (length xs) (omega (arith, mul-le-mul_left b more)))

pub next-word : {b : ℕ} {xs : List ℕ} (first skip count i : ℕ) → IsWidth b → HasWindow b xs (elements_window_from b first skip count) → 0 < skip → i < count → first + i + 1 < 2 ^ 64
next-word {b} {xs} first skip count i width has some more =
    let here = next-inside b xs xs first skip count i has some more refl in
    fits-word b (first + i + 1) xs (elements_window_from b first skip count) width has (omega arith)

pub from-inside : {b : ℕ} {xs : List ℕ} (ys : List ℕ) (first skip count i : ℕ) → HasWindow b xs (elements_window_from b first skip count) → 0 < skip → i ≤ count → length ys ≡ length xs
    → first + i < length ys
from-inside {b} {xs} ys first skip count i has some most same =
    rw same (element_of b (first + i) (skip - 1) (length xs) (omega (arith, mul-le-mul_left b most)))

pub from-word : {b : ℕ} {xs : List ℕ} (first skip count i : ℕ) → IsWidth b → HasWindow b xs (elements_window_from b first skip count) → 0 < skip → i ≤ count → first + i < 2 ^ 64
from-word {b} {xs} first skip count i width has some most =
    let here = from-inside xs first skip count i has some most refl in
    fits-word b (first + i) xs (elements_window_from b first skip count) width has (omega arith)
