-- The elements of a word of 64 bits, and where they lie. A width comes as `w`, the number in the code, which is `b`.
use Rattle.std.specs.Prelude.{◌≡◌, ℕ, ◌+◌, ◌*◌, ◌/◌, ◌^◌, ◌<◌, ◌≤◌, Bool, List, [], length, take, refl}
use Rattle.std.proofs.Common.{arith, rules}
use Rattle.std.proofs.lemmas.List.{same_lists, places}
use Rattle.std.proofs.Math.Nat.{mul-le-mul_left}
use Rattle.bitvec_base.specs.declared.window.Window.{Window}
use Rattle.bitvec_base.specs.Memory.{HasWindow, list_in, memory_bits}
use Rattle.bitvec_base.specs.SliceLaws.{range-none}
use Rattle.bitvec_base.specs.Window.{window_of}
use Rattle.bitvec_store.specs.Width.{IsWidth}
use Rattle.bitvec_store.specs.WidthLaws.{at_each_width, width_some}
use Rattle.bitvec_words.specs.Elements.{elements_window}
use Rattle.bitvec_words.specs.ShortWindow.{padded}
use Rattle.bitvec_words.specs.FieldLaws.{element_of}

-- ---- numbers

-- a word is whole elements that are not wider
pub word_whole : (b : ℕ) → IsWidth b → b ≤ 64 → 64 / b * b ≡ 64
word_whole b w = at_each_width (λ n. n ≤ 64 → 64 / n * n ≡ 64) (λ _. refl) (λ _. refl) (λ _. refl) (λ _. refl) (λ narrow. absurd (omega arith)) b w

pub width-some : {b w : ℕ} → IsWidth b → w ≡ b → 0 < w
width-some {b} width is = rw is (width_some b width)

pub fits-word : (b e : ℕ) (xs : List ℕ) (window : Window) → IsWidth b → HasWindow b xs window → e ≤ length xs → e < 2 ^ 64
fits-word b e xs window width has inside = omega (arith, mul-le-mul_left (length xs) (width_some b width))

-- ---- an element of a window of whole elements

pub inside : (b : ℕ) (xs ys : List ℕ) (first count i : ℕ) → IsWidth b → HasWindow b xs (elements_window b first count) → i < count → length ys ≡ length xs
    → first + i < length ys
inside b xs ys first count i width has more same =
    rw same (element_of b (first + i) 0 (length xs) (omega (arith, mul-le-mul_left b more)))

pub inside-word : {b : ℕ} {xs : List ℕ} (first count i : ℕ) → IsWidth b → HasWindow b xs (elements_window b first count) → i < count → first + i < 2 ^ 64
inside-word {b} {xs} first count i width has more =
    fits-word b (first + i) xs (elements_window b first count) width has (omega (arith, inside b xs xs first count i width has more refl))

-- ---- lists

pub padded-all : {b : ℕ} {list : List Bool} → length list ≡ b → padded b list ≡ list
unfolding padded
padded-all long = same_lists _ _ (search (rules, places)) (λ k d inside. grind (arith, places))

pub take-all : (list : List Bool) (n : ℕ) → length list ≤ n → take n list ≡ list
take-all list n long = same_lists _ _ (search (rules, places)) (λ k d inside. grind (arith, places))

-- ---- memories

pub list-no_element : (b : ℕ) (at : ℕ → ℕ → ℕ) (xs : List ℕ) (first : ℕ) → list_in b at xs (elements_window b first 0) ≡ []
unfolding window_of
list-no_element b at xs first = range-none (memory_bits b at xs) (first * b) (first * b + 0 * b) (omega arith)
