-- Whole elements of a window, from its first bit on, and what is behind them.
use Rattle.std.specs.Prelude.{◌≡◌, ℕ, ◌+◌, ◌-◌, ◌*◌, ◌/◌, ◌%◌, ◌^◌, ◌<◌, ◌≤◌, true, Bool, List, [], length, refl}
use Rattle.std.proofs.Common.{arith, ◌∙◌, ap}
use Rattle.std.proofs.lemmas.Nat.{div-add-mod', mod_below}
use Rattle.std.proofs.Math.Nat.{le_of_mul-le-mul_right, add-mul-mod_self_right}
use Rattle.bitvec_base.specs.declared.window.Window.{Window}
use Rattle.bitvec_base.specs.Lists.{same_bits}
use Rattle.bitvec_base.specs.Memory.{HasWindow, Writes, list_in, memory_bits}
use Rattle.bitvec_base.specs.SliceLaws.{range-none}
use Rattle.bitvec_base.specs.Window.{window_of}
use Rattle.bitvec_cells.specs.Cost.{touched_count}
use Rattle.bitvec_words.specs.Elements.{elements_window}
use Rattle.bitvec_words.specs.TouchedLaws.{touched-first, touched-from, touched-inside}
use Rattle.bitvec_cells.specs.WalkLaws.{touched-none}

-- bits that are whole elements
pub whole-all : (b n : ℕ) → n % b ≡ 0 → n / b * b ≡ n
whole-all b n full = let all = div-add-mod' n b in omega arith

-- m elements that a window of n bits has
pub whole_fits : (b n m : ℕ) → m ≤ n / b → m * b ≤ n
whole_fits b n m fits = grind arith

-- ---- behind m elements of b bits

pub behind-mod : (b s m : ℕ) → 0 < b → (s + m * b) % b ≡ s % b
behind-mod b s m some = add-mul-mod_self_right s m b

-- a window that begins inside an element touches, beside that one, each of the whole elements behind it, and what is behind them
pub touched-behind_from : (b s n m : ℕ) → 0 < b → 0 < s % b → m * b ≤ n → touched_count b s n - 1 ≡ m + (touched_count b (s + m * b) (n - m * b) - 1)
touched-behind_from b s n m some inside fits =
    grind (arith, touched-inside b s (m * b) (n - m * b), touched-from b (s / b) (s % b) m, touched-first b s (m * b), touched-none b s, touched-none b (s + m * b), behind-mod b s m, div-add-mod' s b, mod_below s b)

-- ---- windows

-- windows are what their start and their length are
pub window-same : (window other : Window) → window.start ≡ other.start → window.len ≡ other.len → window ≡ other
window-same window other start len =
    ap (λ (s : ℕ). (let w : Window = record { start = s; len = window.len } in w)) start ∙ ap (λ (n : ℕ). (let w : Window = record { start = other.start; len = n } in w)) len

pub Writes-same : {b : ℕ} {at : ℕ → ℕ → ℕ} {old new : List ℕ} {list : List Bool} (window other : Window) → other.start ≡ window.start → other.len ≡ window.len
    → Writes b at old new window list → Writes b at old new other list
Writes-same {b} {at} {old} {new} {list} window other start len writes = rw (start, len) writes

pub list-same : (b : ℕ) (at : ℕ → ℕ → ℕ) (xs : List ℕ) (window other : Window) → other.start ≡ window.start → other.len ≡ window.len → list_in b at xs other ≡ list_in b at xs window
unfolding window_of
list-same b at xs window other start len = rw (start, len) refl

-- a window's end is a `usize`
pub window-end : {b : ℕ} {xs : List ℕ} {window : Window} → HasWindow b xs window → window.start + window.len < 2 ^ 64
window-end has = omega arith

-- no bits
pub list-empty : (b : ℕ) (at : ℕ → ℕ → ℕ) (xs : List ℕ) (window : Window) → window.len ≡ 0 → list_in b at xs window ≡ []
unfolding window_of
list-empty b at xs window none = range-none (memory_bits b at xs) window.start (window.start + window.len) (omega arith)

pub same-empty : (b : ℕ) (at : ℕ → ℕ → ℕ) (xs ys : List ℕ) (window other : Window) → window.len ≡ 0 → other.len ≡ 0 → true ≡ same_bits (list_in b at xs window) (list_in b at ys other)
unfolding window_of
same-empty b at xs ys window other empty none =
    rw (range-none (memory_bits b at xs) window.start (window.start + window.len) (omega arith), range-none (memory_bits b at ys) other.start (other.start + other.len) (omega arith)) refl

-- a window that lies in another
pub HasWindow-part : {b : ℕ} {xs : List ℕ} {window : Window} (part : Window) → HasWindow b xs window → window.start ≤ part.start → part.start + part.len ≤ window.start + window.len → HasWindow b xs part
HasWindow-part part has low high =
    let start = has.within.start in
    let len = has.within.len in
    record { fits = has.fits; within = record { start = omega arith; len = omega arith } }

-- the elements of a window of them lie in the memory
pub elements-inside : {b : ℕ} {xs : List ℕ} (first n : ℕ) → 0 < b → HasWindow b xs (elements_window b first n) → first + n ≤ length xs
elements-inside {b} {xs} first n some has =
    le_of_mul-le-mul_right {m = first + n} {n = length xs} {k = b} (omega arith) some
