-- Bits that are held aside, combined with others.
use Rattle.std.specs.Prelude.{◌≡◌, ℕ, ◌+◌, ◌-◌, ◌*◌, ◌/◌, ◌%◌, ◌<◌, ◌≤◌, Bool, List, length, map, min, slice_range}
use Rattle.std.proofs.Common.{arith, ap, ◌∙◌, ⊎_elim}
use Rattle.std.proofs.Math.Nat.{div-add-mod, mul-le-mul_left}
use Rattle.std.proofs.lemmas.Bool.{cases_lt}
use Rattle.std.proofs.lemmas.List.{length-map}
use Rattle.bitvec_base.specs.Memory.{HasWindow, list_in, memory_bits}
use Rattle.bitvec_base.specs.MemoryLaws.{length-memory_bits, memory-range}
use Rattle.bitvec_base.specs.SliceLaws.{range-map}
use Rattle.bitvec_base.specs.Window.{window_of}
use Rattle.bitvec_base.specs.WriteLaws.{range-range}
use Rattle.bitvec_base.specs.declared.window.Window.{Window}
use Rattle.bitvec_store.specs.Width.{IsWidth}
use Rattle.bitvec_store.specs.WidthLaws.{at_each_width}

-- some bits of the few elements that are held aside
pub held-inside : {b : ℕ} {xs : List ℕ} {n : ℕ} {window : Window} → IsWidth b → length xs ≡ n → n ≤ 512 → window.start + window.len ≤ b * n → HasWindow b xs window
held-inside {b} {xs} {n} width long few fits =
    let most : b ≤ 128 = at_each_width (λ m. m ≤ 128) (omega arith) (omega arith) (omega arith) (omega arith) (omega arith) b width in
    let room = mul-le-mul_left b few in
    let all : b * length xs ≡ b * n = ap (λ (m : ℕ). b * m) long in
    record { fits = omega arith; within = record { start = omega arith; len = omega arith } }

-- the first of the elements that are held aside: it stands at the place or before it, and they end at the memory's end or before it
pub first-before : (b place first top : ℕ) → first ≡ min (place / b) top → first * b ≤ place
first-before b place first top is =
    let cut = div-add-mod place b in
    let most : first ≤ place / b = omega arith in
    let rows : b * first ≤ b * (place / b) = mul-le-mul_left b most in
    omega arith

-- the bits that are read lie in those
pub held-room : (b n count place first held : ℕ) → first ≡ min (place / b) (count - held) → held ≤ count → place + n ≤ b * count → place % b + n ≤ b * held → place - first * b + n ≤ b * held
held-room b n count place first held is many inside room = ⊎_elim
    (λ (low : place / b < count - held).
    let first-is : first ≡ place / b = omega arith in
    let cut = div-add-mod place b in
    let rows : b * first ≡ b * (place / b) = ap (λ (m : ℕ). b * m) first-is in
    omega arith)
    (λ (high : count - held ≤ place / b).
    let first-is : first ≡ count - held = omega arith in
    let sum : b * first + b * held ≡ b * (first + held) = omega arith in
    let rows : b * (first + held) ≡ b * count = ap (λ (m : ℕ). b * m) (let all : first + held ≡ count = omega arith in all) in
    omega arith)
    (cases_lt (place / b) (count - held))

-- the bits of a window of those
pub held-list : {A : Type 0} (b : ℕ) (at : ℕ → ℕ → ℕ) (value : A → ℕ) (cells held : List A) (place first count n : ℕ) → 0 < b → held ≡ slice_range cells first (first + count) → first + count ≤ length cells → first * b ≤ place → place - first * b + n ≤ b * count
    → list_in b at (map value held) (record { start = place - first * b; len = n }) ≡ list_in b at (map value cells) (record { start = place; len = n })
unfolding window_of
held-list b at value cells held place first count n some is fits before inside =
    let xs = map value cells in
    let long = length-map cells value in
    let all = length-memory_bits b at xs in
    let skip = place - first * b in
    let end : (first + count) * b ≡ first * b + b * count = omega arith in
    let rows : b * (first + count) ≤ b * length xs = mul-le-mul_left b (let inside : first + count ≤ length xs = omega arith in inside) in
    let product : (first + count) * b ≡ b * (first + count) = omega arith in
    let place-is : first * b + skip ≡ place = omega arith in
    let place-end : first * b + (skip + n) ≡ place + n = omega arith in
    let held-bits : memory_bits b at (map value held) ≡ slice_range (memory_bits b at xs) (first * b) ((first + count) * b) =
    ap (memory_bits b at) (ap (map value) is ∙ range-map value cells first (first + count)) ∙ memory-range b at xs first (first + count) some (omega arith) (omega arith) in
    ap (λ (l : List Bool). slice_range l skip (skip + n)) held-bits
    ∙ range-range (memory_bits b at xs) (first * b) ((first + count) * b) skip (skip + n) (omega arith) (omega arith)
    ∙ ap (λ (s : ℕ). slice_range (memory_bits b at xs) s (first * b + (skip + n))) place-is ∙ ap (λ (e : ℕ). slice_range (memory_bits b at xs) place e) place-end
