-- The ones of a window by two parts of it, side by side, and of whole elements one after the other.
use Rattle.std.specs.Prelude.{◌≡◌, ℕ, ◌+◌, ◌-◌, ◌*◌, ◌/◌, ◌%◌, ◌^◌, ◌<◌, ◌≤◌, zero, suc, Bool, List, count_by, count_ones, slice_index, refl}
use Rattle.std.proofs.Common.{arith, sym, ◌∙◌, ap}
use Rattle.std.proofs.Math.Nat.{mod-lt, mul-le-mul_left}
use Rattle.std.proofs.lemmas.List.{same_lists}
use Rattle.std.proofs.lemmas.Nat.{div-add-mod', pow_pos}
use Rattle.std.proofs.lemmas.Nat.Bits.{bit_at_cat_low}
use Rattle.bitvec_base.specs.CountLaws.{ones_within}
use Rattle.bitvec_base.specs.declared.window.Window.{Window}
use Rattle.bitvec_base.specs.Memory.{HasWindow, element_bits, list_in}
use Rattle.bitvec_base.specs.MemoryLaws.{get-element_bits, length-element_bits}
use Rattle.bitvec_base.specs.Order.{Permutes}
use Rattle.bitvec_base.specs.WritesLaws.{length-list}
use Rattle.bitvec_store.specs.Width.{IsWidth}
use Rattle.bitvec_cells.specs.ElementLaws.{element-count}
use Rattle.bitvec_words.specs.Elements.{elements_window}
use Rattle.bitvec_words.specs.FieldLaws.{list-element}
use Rattle.bitvec_words.specs.WholeLaws.{list-empty}
use Rattle.bitvec_words.proofs.SplitLemmas.{count-parts, split-count}
use Rattle.bitvec_words.proofs.WordScanLemmas.{Block, Parted, block-at}

-- no more than the window's bits
pub count-within : {b : ℕ} (at : ℕ → ℕ → ℕ) {xs : List ℕ} {window : Window} {ones : ℕ} → HasWindow b xs window → ones ≡ count_by (λ (bit : Bool). bit) (list_in b at xs window) → ones ≤ window.len
count-within {b} at {xs} {window} {ones} has is = ones_within (list_in b at xs window) (sym (length-list at has)) is

pub count-few : {b : ℕ} (at : ℕ → ℕ → ℕ) {xs : List ℕ} {window : Window} {ones : ℕ} → HasWindow b xs window → ones ≡ count_by (λ (bit : Bool). bit) (list_in b at xs window) → ones < 2 ^ 64
count-few {b} at {xs} {window} {ones} has is = omega (arith, count-within at has is)

-- one element more
pub count-element : (b : ℕ) (at : ℕ → ℕ → ℕ) → Permutes b (at b) → {xs : List ℕ} (first : ℕ) {count step v m n : ℕ} → 0 < b → HasWindow b xs (elements_window b first count) → step < count → v ≡ slice_index xs (first + step) → v < 2 ^ b
    → m ≡ count_by (λ (bit : Bool). bit) (list_in b at xs (elements_window b first step)) → n ≡ count_ones v → m + n ≡ count_by (λ (bit : Bool). bit) (list_in b at xs (elements_window b first (step + 1)))
count-element b at p {xs} first {count} {step} {v} some has more is small before ones =
    count-parts (list_in b at xs (elements_window b first step)) (element_bits b at (slice_index xs (first + step)))
    (list-element at first count step some has more) before
    (ones ∙ element-count b at p v small ∙ ap (λ (k : ℕ). count_by (λ (bit : Bool). bit) (element_bits b at k)) is)

-- ---- whole elements in any order

-- the bits of an element are those of its number's lowest b
element-low : (b : ℕ) (at : ℕ → ℕ → ℕ) → Permutes b (at b) → (v : ℕ) → element_bits b at v ≡ element_bits b at (v % 2 ^ b)
element-low b at p v =
    same_lists _ _ (grind (arith, length-element_bits)) (λ k d inside. grind (arith, length-element_bits, get-element_bits, p.below k, bit_at_cat_low (v / 2 ^ b) b (v % 2 ^ b) (at b k), div-add-mod' v (2 ^ b)))

element-ones : (b : ℕ) (at : ℕ → ℕ → ℕ) → Permutes b (at b) → (v : ℕ) → count_ones (v % 2 ^ b) ≡ count_by (λ (bit : Bool). bit) (element_bits b at v)
element-ones b at p v =
    element-count b at p (v % 2 ^ b) (mod-lt v (pow_pos b)) ∙ ap (λ (l : List Bool). count_by (λ (bit : Bool). bit) l) (sym (element-low b at p v))

-- whole elements have as many ones in each order
module _ (b : ℕ) (at other : ℕ → ℕ → ℕ) (p : Permutes b (at b)) (q : Permutes b (other b)) (xs : List ℕ) (first count : ℕ) (some : 0 < b) (has : HasWindow b xs (elements_window b first count)) where
  orders-upto : (step : ℕ) → step ≤ count → count_by (λ (bit : Bool). bit) (list_in b at xs (elements_window b first step)) ≡ count_by (λ (bit : Bool). bit) (list_in b other xs (elements_window b first step))
  orders-upto zero low =
      ap (λ (l : List Bool). count_by (λ (bit : Bool). bit) l) (list-empty b at xs (elements_window b first 0) (omega arith) ∙ sym (list-empty b other xs (elements_window b first 0) (omega arith)))
  orders-upto (suc step) low =
      let same : suc step ≡ step + 1 = omega arith in
      let v : ℕ = slice_index xs (first + step) in
      let front : List Bool = list_in b at xs (elements_window b first step) in
      let rest : List Bool = element_bits b at v in
      let m : ℕ = count_by (λ (bit : Bool). bit) front in
      let n : ℕ = count_by (λ (bit : Bool). bit) rest in
      let one = count-parts front rest {m = m} {n = n} (list-element at first count step some has (omega arith)) refl refl in
      let two = count-parts (list_in b other xs (elements_window b first step)) (element_bits b other v)
      (list-element other first count step some has (omega arith)) (orders-upto step (omega arith)) (sym (element-ones b at p v) ∙ element-ones b other q v) in
      rw same (sym one ∙ two)

  pub count-orders : count_by (λ (bit : Bool). bit) (list_in b at xs (elements_window b first count)) ≡ count_by (λ (bit : Bool). bit) (list_in b other xs (elements_window b first count))
  count-orders = orders-upto count (omega arith)

-- ---- words of narrow elements

itself : (b : ℕ) → Permutes b (λ i. i)
itself b = record { below = λ i h. h; apart = λ i j h k e. e }

pub word-ones : (v : ℕ) {list : List Bool} → element_bits 64 (λ c i. i) v ≡ list → v < 2 ^ 64 → count_ones v ≡ count_by (λ (bit : Bool). bit) list
word-ones v is small = element-count 64 (λ c i. i) (itself 64) v small ∙ ap (λ (l : List Bool). count_by (λ (bit : Bool). bit) l) is

-- one block more
module _ {b : ℕ} {xs : List ℕ} {first count size step m n : ℕ} (block : Block b xs first count size step)
    (before : m ≡ count_by (λ (bit : Bool). bit) (list_in b (λ c i. i) xs (elements_window b first (step * size)))) (here : n ≡ count_by (λ (bit : Bool). bit) (list_in b (λ c i. i) xs (elements_window b (first + step * size) size))) where
  pub count-block : m + n ≡ count_by (λ (bit : Bool). bit) (list_in b (λ c i. i) xs (elements_window b first ((step + 1) * size)))
  count-block = split-count block.next (λ c i. i) block.upto.front m n before here

  pub count-block_few : m + n < 2 ^ 64
  count-block_few = count-few (λ c i. i) block.upto.front count-block

-- one of some words
pub word-block : (b : ℕ) {xs : List ℕ} (first count step : ℕ) → IsWidth b → HasWindow b xs (elements_window b first (count * (64 / b))) → step < count → Block b xs first (count * (64 / b)) (64 / b) step
word-block b first count step width has more = let order = mul-le-mul_left (64 / b) more in block-at b (64 / b) first (count * (64 / b)) step width has (omega arith)

-- words of whole elements, and the elements that are left
pub count-left : {b : ℕ} {xs : List ℕ} {first count passed m n : ℕ} → Parted b xs first count passed → (at : ℕ → ℕ → ℕ) → Permutes b (at b) → 0 < b
    → m ≡ count_by (λ (bit : Bool). bit) (list_in b (λ c i. i) xs (elements_window b first passed)) → n ≡ count_by (λ (bit : Bool). bit) (list_in b at xs (elements_window b (first + passed) (count - passed)))
    → m + n ≡ count_by (λ (bit : Bool). bit) (list_in b at xs (elements_window b first count))
count-left {b} {xs} {first} {count} {passed} {m} {n} parts at p some words left =
    split-count parts.split at parts.all m n (words ∙ count-orders b (λ c i. i) at (itself b) p xs first passed some parts.front) left
