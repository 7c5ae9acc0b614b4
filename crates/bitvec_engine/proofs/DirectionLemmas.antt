-- Elements, and memories of them, under orders that agree, and under one that runs the other way.
use Rattle.std.specs.Prelude.{◌≡◌, ℕ, ◌-◌, ◌/◌, ◌%◌, ◌<◌, ◌==◌, Bool, true, false, List, length, reverse, slice_index, slice_index_or}
use Rattle.std.specs.Bool.{beq}
use Rattle.std.specs.Int.{bit_at}
use Rattle.std.proofs.Common.{arith, sym, ◌∙◌, ap}
use Rattle.std.proofs.lemmas.List.{get_or-reverse, same_lists}
use Rattle.std.proofs.lemmas.Nat.{mod_below}
use Rattle.bitvec_engine.specs.Direction.{Agrees}
use Rattle.bitvec_base.specs.declared.window.Window.{Window}
use Rattle.bitvec_base.specs.Memory.{element_bits, list_in, memory_bits, place_bit}
use Rattle.bitvec_base.specs.MemoryLaws.{get-element_bits, get-memory_bits, length-element_bits, length-memory_bits}
use Rattle.bitvec_base.specs.Window.{window_of}
use Rattle.bitvec_words.specs.OrderEnd.{RunsFrom}

-- ---- orders that agree

pub element-agrees : (b : ℕ) (at other : ℕ → ℕ → ℕ) (v : ℕ) → Agrees b at other → element_bits b at v ≡ element_bits b other v
element-agrees b at other v agrees =
    let left = length-element_bits b at v in
    let right = length-element_bits b other v in
    same_lists _ _ (omega arith) (λ k d inside.
    get-element_bits b at v k d (omega arith) ∙ ap (λ (n : ℕ). bit_at v n == 1) (agrees k (omega arith)) ∙ sym (get-element_bits b other v k d (omega arith)))

place-agrees : (b : ℕ) (at other : ℕ → ℕ → ℕ) (xs : List ℕ) (j : ℕ) → 0 < b → Agrees b at other → place_bit b at xs j ≡ place_bit b other xs j
unfolding place_bit
place-agrees b at other xs j some agrees = ap (λ (n : ℕ). bit_at (slice_index xs (j / b)) n == 1) (agrees (j % b) (mod_below j b some))

pub memory-agrees : (b : ℕ) (at other : ℕ → ℕ → ℕ) (xs : List ℕ) → 0 < b → Agrees b at other → memory_bits b at xs ≡ memory_bits b other xs
memory-agrees b at other xs some agrees =
    let left = length-memory_bits b at xs in
    let right = length-memory_bits b other xs in
    same_lists _ _ (omega arith) (λ k d inside.
    get-memory_bits b at xs k d (omega arith) ∙ place-agrees b at other xs k some agrees ∙ sym (get-memory_bits b other xs k d (omega arith)))

pub list-agrees : (b : ℕ) (at other : ℕ → ℕ → ℕ) (xs : List ℕ) (window : Window) → 0 < b → Agrees b at other → list_in b at xs window ≡ list_in b other xs window
list-agrees b at other xs window some agrees = ap (λ (bits : List Bool). window_of bits window) (memory-agrees b at other xs some agrees)

-- ---- orders that run the same way, and opposite ways

same_way : (x y : Bool) → beq x y ≡ true → (b : ℕ) (at other : ℕ → ℕ → ℕ) → RunsFrom x b at → RunsFrom y b other → Agrees b other at
same_way false false same b at other from to k h = to k h ∙ sym (from k h)
same_way false true same b at other from to k h = absurd cc
same_way true false same b at other from to k h = absurd cc
same_way true true same b at other from to k h = to k h ∙ sym (from k h)

-- an index from the other end
far : (x y : Bool) → beq x y ≡ false → (b : ℕ) (at other : ℕ → ℕ → ℕ) → RunsFrom x b at → RunsFrom y b other → (k : ℕ) → k < b → other b k ≡ at b (b - 1 - k)
far false false apart b at other from to k h = absurd cc
far false true apart b at other from to k h = to k h ∙ sym (from (b - 1 - k) (omega arith))
far true false apart b at other from to k h =
    let back : b - 1 - (b - 1 - k) ≡ k = omega arith in
    to k h ∙ sym (from (b - 1 - k) (omega arith) ∙ back)
far true true apart b at other from to k h = absurd cc

pub element-same_way : (x y : Bool) → beq x y ≡ true → (b : ℕ) (at other : ℕ → ℕ → ℕ) → RunsFrom x b at → RunsFrom y b other → (v : ℕ) → element_bits b other v ≡ element_bits b at v
element-same_way x y same b at other from to v = element-agrees b other at v (same_way x y same b at other from to)

pub element-other_way : (x y : Bool) → beq x y ≡ false → (b : ℕ) (at other : ℕ → ℕ → ℕ) → RunsFrom x b at → RunsFrom y b other → (v w : ℕ)
    → element_bits b at w ≡ reverse (element_bits b at v) → element_bits b other w ≡ element_bits b at v
element-other_way x y apart b at other from to v w reversed =
    let left = length-element_bits b other w in
    let right = length-element_bits b at v in
    same_lists _ _ (omega arith) (λ k d inside.
    let below : k < b = omega arith in
    let mirrored : length (element_bits b at v) - 1 - (b - 1 - k) ≡ k = omega arith in
    get-element_bits b other w k d below
    ∙ ap (λ (n : ℕ). bit_at w n == 1) (far x y apart b at other from to k below)
    ∙ sym (get-element_bits b at w (b - 1 - k) d (omega arith))
    ∙ ap (λ (l : List Bool). slice_index_or l (b - 1 - k) d) reversed
    ∙ get_or-reverse (element_bits b at v) (b - 1 - k) d (omega arith)
    ∙ ap (λ (n : ℕ). slice_index_or (element_bits b at v) n d) mirrored)
