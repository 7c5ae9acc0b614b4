-- Where the first part of a window stands, its whole elements, and what is behind them.
use Rattle.std.specs.Prelude.{◌≡◌, ℕ, ◌+◌, ◌/◌, ◌%◌, ◌<◌, ◌≤◌, List, length}
use Rattle.std.proofs.Common.{arith}
use Rattle.std.proofs.Math.Nat.{mul-le-mul_left}
use Rattle.bitvec_base.specs.declared.window.Window.{Window}
use Rattle.bitvec_base.specs.Memory.{HasWindow}
use Rattle.bitvec_store.specs.Width.{IsWidth}
use Rattle.bitvec_words.specs.Elements.{elements_window}
use Rattle.bitvec_words.specs.FieldLaws.{element_of}
use Rattle.bitvec_words.specs.Front.{front_window}
use Rattle.bitvec_words.specs.WholeLaws.{HasWindow-part, whole-all}

-- ---- a front, and the elements of a word

pub HasWindow-first_bits : {b : ℕ} {xs : List ℕ} {window front : Window} → front ≡ front_window window → HasWindow b xs window → HasWindow b xs front
HasWindow-first_bits {b} {xs} {window} is has = rw is (HasWindow-part (front_window window) has (omega arith) (omega arith))

pub HasWindow-word : {b : ℕ} {xs : List ℕ} {window : Window} → IsWidth b → b ≤ 64 → 64 ≤ window.len → window.start % b ≡ 0 → HasWindow b xs window → HasWindow b xs (elements_window b (window.start / b) (64 / b))
HasWindow-word {b} {xs} {window} width narrow long edge has =
    let start = whole-all b window.start edge in
    HasWindow-part (elements_window b (window.start / b) (64 / b)) has (omega arith) (omega arith)

-- ---- an element of some, its number, and the bits before it

module _ (b : ℕ) (xs : List ℕ) (first count step : ℕ) (some : 0 < b) (has : HasWindow b xs (elements_window b first count)) (more : step < count) where
  pub element-inside : first + step < length xs
  element-inside = element_of b (first + step) 0 (length xs) (omega (arith, mul-le-mul_left b more))
