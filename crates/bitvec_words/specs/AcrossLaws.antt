-- Words of 64 bits of a memory of elements of b bits.
use Rattle.std.specs.Prelude.{◌≡◌, ℕ, ◌+◌, ◌-◌, ◌*◌, ◌/◌, ◌%◌, ◌<◌, ◌≤◌, Bool, false, List, ◌++◌, length, take, drop, replicate, slice_index, slice_range}
use Rattle.std.proofs.Common.{arith, rules, sym, ◌∙◌, ap}
use Rattle.std.proofs.lemmas.List.{same_lists, places}
use Rattle.bitvec_base.specs.declared.window.Window.{Window}
use Rattle.bitvec_base.specs.Memory.{HasWindow, Writes, element_bits, list_in, memory_bits}
use Rattle.bitvec_base.specs.MemoryLaws.{element-range, length-memory_bits}
use Rattle.bitvec_base.specs.Window.{window_of, write_at}
use Rattle.bitvec_base.specs.WindowLaws.{part-written}
use Rattle.bitvec_base.specs.WritesLaws.{Writes-is, length-list, within-list}
use Rattle.bitvec_store.specs.Width.{IsWidth}
use Rattle.bitvec_words.specs.Elements.{elements_window}
use Rattle.bitvec_words.specs.FieldLaws.{element_of}

-- ---- lists

-- 64 values from the index `skip` of an element on
pub word-across : (list : List Bool) (a b skip : ℕ) → skip < b → b ≤ 64 → a + 64 + b ≤ length list
    → drop skip (slice_range list a (a + 64)) ++ take skip (write_at (replicate 64 false) 0 (slice_range (slice_range list (a + 64) (a + 64 + b)) 0 (0 + b))) ≡ slice_range list (a + skip) (a + skip + 64)
unfolding write_at
word-across list a b skip below narrow fits = same_lists _ _ (search (rules, places)) (λ k d inside. grind (arith, places))

-- a word whose last bits were moved to the start of an element
pub word-tail : (word : List Bool) (b skip : ℕ) → length word ≡ 64 → skip < b → b < 64
    → take (64 - skip) word ++ slice_range (write_at (replicate b false) 0 (slice_range word (64 - skip) (64 - skip + skip))) 0 skip ≡ word
unfolding write_at
word-tail word b skip long below narrow = same_lists _ _ (search (rules, places)) (λ k d inside. grind (arith, places))

taken-front : (list new : List Bool) (s : ℕ) → s + length new ≡ length list → take s list ++ new ≡ write_at list s new
unfolding write_at
taken-front list new s all = same_lists _ _ (search (rules, places)) (λ k d inside. grind (arith, places))

-- ---- memories

-- an element stands behind those of a word, where a window of 64 bits begins inside one
pub word-next : (b w : ℕ) (xs ys : List ℕ) (window : Window) → IsWidth b → w ≡ b → HasWindow b xs window → window.len ≡ 64 → b ≤ 64 → 0 < window.start % w → length ys ≡ length xs
    → window.start / w + 64 / w < length ys
word-next b w xs ys window width is has size narrow inside same =
    let more = rw is at inside in
    rw (is, same) (element_of b (window.start / b + 64 / b) (window.start % b - 1) (length xs) (omega arith))

pub length-first : (list : List Bool) (n : ℕ) → n ≤ length list → length (take n list) ≡ n
length-first list n fits = search (rules, places)

first-range : (list : List Bool) (a b n s : ℕ) → s ≤ b → b ≤ n → a + n ≤ length list
    → take s (slice_range list a (a + n)) ≡ take s (slice_range list a (a + b))
first-range list a b n s short fits inside = same_lists _ _ (search (rules, places)) (λ k d below. grind (arith, places))

-- the first bits of some elements are those of the first one
pub first-values : {b : ℕ} (at : ℕ → ℕ → ℕ) {xs : List ℕ} (first count s : ℕ) → 0 < b → first < length xs
    → HasWindow b xs (elements_window b first count) → s < b → b ≤ count * b
    → take s (list_in b at xs (elements_window b first count)) ≡ take s (element_bits b at (slice_index xs first))
unfolding window_of
first-values {b} at {xs} first count s some inside has below more =
    let long = length-memory_bits b at xs in
    first-range (memory_bits b at xs) (first * b) b (count * b) s (omega arith) more (omega arith)
    ∙ ap (take s) (element-range b at xs first inside)

-- a write that leaves the first s bits of its window is one into the others
pub Writes-behind : (b : ℕ) (at : ℕ → ℕ → ℕ) (old new : List ℕ) (window part : Window) (s : ℕ) (list : List Bool) → HasWindow b old window
    → part.start ≡ window.start + s → window.len ≡ s + part.len → length list ≡ part.len
    → Writes b at old new window (take s (list_in b at old window) ++ list) → Writes b at old new part list
Writes-behind b at old new window part s list has start all long writes =
    let whole = length-list at has in
    let same = Writes-is writes (taken-front (list_in b at old window) list s (omega arith)) in
    record {
      bits = same.bits ∙ sym (part-written (memory_bits b at old) window part s list (within-list at has) start (omega arith));
      long = long;
      elements = writes.elements;
    }
