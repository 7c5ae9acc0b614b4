-- Elements of a window copied to another at once.
use borrow.Rule.Slice.PartMut.{put_mid}
use Rattle.std.specs.Prelude.{◌≡◌, ◌≢◌, ℕ, ◌+◌, ◌-◌, ◌*◌, ◌/◌, ◌%◌, ◌<◌, ◌≤◌, Bool, List, length, map, slice_index, slice_index_or, slice_range}
use Rattle.std.proofs.Common.{arith, sym, ap, ◌∙◌}
use Rattle.std.proofs.Math.Nat.{add-mul, mod-add-mod}
use Rattle.std.proofs.lemmas.List.{get_or-map, length-map}
use Rattle.std.proofs.lemmas.Nat.{div-add-mod'}
use Rattle.bitvec_base.specs.declared.part.Part.{Part}
use Rattle.bitvec_base.specs.declared.window.Window.{Window}
use Rattle.bitvec_base.specs.Memory.{HasWindow, Writes, element_bits, list_in, memory_bits}
use Rattle.bitvec_base.specs.MemoryLaws.{memory-range}
use Rattle.bitvec_base.specs.Parts.{first_part_of, part_window}
use Rattle.bitvec_base.specs.SliceLaws.{range-map, range-same}
use Rattle.bitvec_base.specs.Spans.{HasSpan}
use Rattle.bitvec_base.specs.Window.{window_of, write_at}
use Rattle.bitvec_base.specs.WriteLaws.{length-slice_range, length-write_at}
use Rattle.bitvec_base.specs.WritesLaws.{Writes-is, length-list}
use Rattle.bitvec_words.specs.Elements.{elements_window}
use Rattle.bitvec_words.specs.FieldLaws.{Writes-none, element_of, list-part}
use Rattle.bitvec_words.specs.WholeLaws.{HasWindow-part, Writes-same, elements-inside, list-same}
use Rattle.bitvec_words.specs.WrittenLaws.{memory-write_at}
use Rattle.bitvec_cells.specs.PutLaws.{part-numbers}
use Rattle.bitvec_store.specs.Width.{IsWidth}
use Rattle.bitvec_store.specs.WidthLaws.{at_each_width}

-- whole elements from a window's first bit on lie in the memory
whole-inside : {b : ℕ} {xs : List ℕ} {window : Window} (n : ℕ) → 0 < b → HasWindow b xs window → window.start % b ≡ 0 → n % b ≡ 0 → n ≤ window.len → window.start / b + n / b ≤ length xs
whole-inside {b} {xs} {window} n some has edge whole short =
    let place = div-add-mod' window.start b in
    let parts = div-add-mod' n b in
    elements-inside (window.start / b) (n / b) some (HasWindow-part (elements_window b (window.start / b) (n / b)) has (omega arith) (omega arith))

-- whole elements of a window hold those of another
pub Writes-elements : {b : ℕ} (at : ℕ → ℕ → ℕ) {xs ys : List ℕ} {to from : Window} → 0 < b → HasSpan b xs ys to from → to.start % b ≡ 0 → from.start % b ≡ 0 → to.len % b ≡ 0
    → Writes b at xs (write_at xs (to.start / b) (slice_range ys (from.start / b) (from.start / b + to.len / b))) to (list_in b at ys from)
unfolding window_of
Writes-elements {b} at {xs} {ys} {to} {from} some span edge right_edge whole =
    let first = to.start / b in
    let source = from.start / b in
    let count = to.len / b in
    let place = div-add-mod' to.start b in
    let right_place = div-add-mod' from.start b in
    let parts = div-add-mod' to.len b in
    let lengths = span.lengths in
    let ends = add-mul source count b in
    let inside = whole-inside to.len some span.beside right_edge whole (omega arith) in
    let fits = whole-inside to.len some span.window edge whole (omega arith) in
    let new = slice_range ys source (source + count) in
    let long = length-slice_range ys source (source + count) inside in
    let room : first + length new ≤ length xs = omega arith in
    record {
      bits = memory-write_at b at xs new first some room
          ∙ ap (λ (l : List Bool). write_at (memory_bits b at xs) (first * b) l)
          (memory-range b at ys source (source + count) some (omega arith) inside
          ∙ range-same (memory_bits b at ys) (source * b) ((source + count) * b) from.start (from.start + from.len) (omega arith) (omega arith))
          ∙ ap (λ (s : ℕ). write_at (memory_bits b at xs) s (list_in b at ys from)) (let same : first * b ≡ to.start = omega arith in same);
      long = length-list at span.beside ∙ sym lengths;
      elements = length-write_at xs first new room;
    }

-- the elements of a part copied at once
pub elements-copied : {A : Type 0} (value : A → ℕ) {b : ℕ} {at : ℕ → ℕ → ℕ} (left right : List A) {new : List A} {to from : Window} → 0 < b → HasSpan b (map value left) (map value right) to from → to.start % b ≡ 0 → from.start % b ≡ 0 → to.len % b ≡ 0
    → new ≡ slice_range right (from.start / b) (from.start / b + to.len / b)
    → Writes b at (map value left) (map value (put_mid (to.start / b) (to.start / b + to.len / b - to.start / b) left new)) to (list_in b at (map value right) from)
elements-copied value {b} {at} left right {new} {to} {from} some span edge right_edge whole is =
    let wrote = Writes-elements at some span edge right_edge whole in
    let inside = whole-inside to.len some span.beside right_edge whole (let lengths = span.lengths in omega arith) in
    let ends = length-map right value in
    let long = ap length is ∙ length-slice_range right (from.start / b) (from.start / b + to.len / b) (omega arith) in
    let numbers = part-numbers value (to.start / b) (to.start / b + to.len / b - to.start / b) left new (omega arith) in
    let part = ap (map value) is ∙ range-map value right (from.start / b) (from.start / b + to.len / b) in
    rw (numbers, part) wrote

-- a window's whole elements, as a range of its bits
pub record WholeRange (b s n f l : ℕ) : Type 0 where
  pub front : s % b + f ≤ b
  pub edge : (s + f) % b ≡ 0
  pub order : f ≤ l
  pub bound : l ≤ n
  pub whole : (l - f) % b ≡ 0
  pub back : (s + l) % b ≡ 0
  pub rest : n ≤ l + b

pub whole_range : (b s n : ℕ) → IsWidth b → b ≤ n → WholeRange b s n ((b - s % b) % b) (n - (n - (b - s % b) % b) % b)
whole_range b s n width =
    at_each_width (λ b. b ≤ n → WholeRange b s n ((b - s % b) % b) (n - (n - (b - s % b) % b) % b))
    (λ fits. record { front = omega arith; edge = omega arith; order = omega arith; bound = omega arith; whole = omega arith; back = omega arith; rest = omega arith })
    (λ fits. record { front = omega arith; edge = omega arith; order = omega arith; bound = omega arith; whole = omega arith; back = omega arith; rest = omega arith })
    (λ fits. record { front = omega arith; edge = omega arith; order = omega arith; bound = omega arith; whole = omega arith; back = omega arith; rest = omega arith })
    (λ fits. record { front = omega arith; edge = omega arith; order = omega arith; bound = omega arith; whole = omega arith; back = omega arith; rest = omega arith })
    (λ fits. record { front = omega arith; edge = omega arith; order = omega arith; bound = omega arith; whole = omega arith; back = omega arith; rest = omega arith })
    b width

pub same-phase : (b s t n : ℕ) → s % b ≡ t % b → (s + n) % b ≡ (t + n) % b
same-phase b s t n same = sym (mod-add-mod s b n) ∙ ap (λ m. (m + n) % b) same ∙ mod-add-mod t b n

-- ---- the bits of one element

-- none
pub none-copied : {b : ℕ} {at : ℕ → ℕ → ℕ} {xs ys : List ℕ} {to from : Window} → HasSpan b xs ys to from → to.len ≡ 0 → Writes b at xs xs to (list_in b at ys from)
none-copied {b} {at} {xs} {ys} {to} {from} span none = Writes-none at ys from span.window none (sym span.lengths ∙ none)

-- those of an element that was read, stored at the same indices of another
pub part-copied : {A : Type 0} (value : A → ℕ) {b : ℕ} {at : ℕ → ℕ → ℕ} {xs mid : List ℕ} (right : List A) {to from : Window} {part : Part} {v : A} → 0 < b → HasSpan b xs (map value right) to from → to.len ≢ 0 → to.start % b ≡ from.start % b → to.start % b + to.len ≤ b
    → part ≡ first_part_of b to → v ≡ slice_index_or right (from.start / b) v
    → Writes b at xs mid (part_window b part) (slice_range (element_bits b at (value v)) part.from part.to) → Writes b at xs mid to (list_in b at (map value right) from)
part-copied value {b} {at} {xs} {mid} right {to} {from} {part} {v} some span more phases one is held writes =
    let ys = map value right in
    let place = div-add-mod' to.start b in
    let right_place = div-add-mod' from.start b in
    let lengths = span.lengths in
    let start = span.beside.within.start in
    let len = span.beside.within.len in
    let inside : from.start / b < length ys = element_of b (from.start / b) (from.start % b) (length ys) (omega arith) in
    let number : value v ≡ slice_index ys (from.start / b) =
    ap value held ∙ sym (get_or-map value right (from.start / b) v 0 (omega (arith, length-map right value))) in
    let piece : Part = record (first_part_of b to) { element = from.start / b } in
    let source = list-part {b = b} at {xs = ys} {part = piece} (record { element = inside; order = omega arith; bound = omega arith }) in
    let stored : Writes b at xs mid (part_window b (first_part_of b to)) (slice_range (element_bits b at (slice_index ys (from.start / b))) (first_part_of b to).from (first_part_of b to).to) = rw (is, number) at writes in
    Writes-same (part_window b (first_part_of b to)) to (omega arith) (omega arith)
    (Writes-is stored (sym (list-same b at ys (part_window b piece) from (omega arith) (omega arith) ∙ source)))
