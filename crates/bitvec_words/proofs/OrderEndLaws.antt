-- An element's bits moved toward its start or its end, by the end of the element at which an order starts.
use Rattle.std.proofs.lemmas.Bool.Decides.{nat_tests}
use Rattle.std.specs.Prelude.{◌≡◌, ℕ, ◌+◌, ◌-◌, ◌*◌, ◌/◌, ◌%◌, ◌^◌, ◌<◌, ◌≤◌, Bool, true, false}
use Rattle.std.specs.Int.{bit_at}
use Rattle.std.proofs.Common.{arith, subst}
use Rattle.std.proofs.lemmas.List.{same_lists, places}
use Rattle.std.proofs.lemmas.Nat.Bits.{bit_at_above}
use Rattle.bitvec_base.specs.Lists.{shifted_start, shifted_end}
use Rattle.bitvec_base.specs.Memory.{element_bits}
use Rattle.bitvec_base.specs.MemoryLaws.{length-element_bits, get-element_bits}
use Rattle.bitvec_base.specs.ShiftLaws.{bit_at_shl, bit_at_shl_left, bit_at_shr}
use Rattle.bitvec_words.specs.OrderEnd.{RunsFrom}

-- which end that is, once it is known
runs_from : {high found : Bool} (b : ℕ) (at : ℕ → ℕ → ℕ) → RunsFrom high b at → high ≡ found → RunsFrom found b at
runs_from b at runs same = subst (λ (h : Bool). RunsFrom h b at) same runs

-- ---- an element whose bits stand elsewhere

-- k places nearer to the start
moved_start : (b : ℕ) (at : ℕ → ℕ → ℕ) (v w k : ℕ) → k ≤ b
    → ((i : ℕ) → i + k < b → bit_at w (at b i) ≡ bit_at v (at b (i + k)))
    → ((i : ℕ) → i < b → b ≤ i + k → bit_at w (at b i) ≡ 0)
    → element_bits b at w ≡ shifted_start k (element_bits b at v)
unfolding shifted_start
moved_start b at v w k fits moved left =
    same_lists _ _ (grind (arith, length-element_bits, places)) (λ i d inside. grind (arith, nat_tests, places, length-element_bits, get-element_bits, moved i, left i))

-- k places nearer to the end
moved_end : (b : ℕ) (at : ℕ → ℕ → ℕ) (v w k : ℕ) → k ≤ b
    → ((i : ℕ) → k ≤ i → i < b → bit_at w (at b i) ≡ bit_at v (at b (i - k)))
    → ((i : ℕ) → i < b → i < k → bit_at w (at b i) ≡ 0)
    → element_bits b at w ≡ shifted_end k (element_bits b at v)
unfolding shifted_end
moved_end b at v w k fits moved left =
    same_lists _ _ (grind (arith, length-element_bits, places)) (λ i d inside. grind (arith, nat_tests, places, length-element_bits, get-element_bits, moved i, left i))

-- ---- the two shifts, where the order starts at the least significant bit, and where at the most

pub shr-low : (high : Bool) (b : ℕ) (at : ℕ → ℕ → ℕ) → RunsFrom high b at → high ≡ false → (v k : ℕ) → v < 2 ^ b → k < b → element_bits b at (v / 2 ^ k) ≡ shifted_start k (element_bits b at v)
shr-low high b at ends is v k small h =
    let runs = runs_from b at ends is in
    moved_start b at v _ k (omega arith)
    (λ i short. grind (arith, runs i, runs (i + k), bit_at_shr v k i))
    (λ i below past. grind (arith, runs i, bit_at_shr v k i, bit_at_above v b (i + k) small))

pub shl-high : (high : Bool) (b : ℕ) (at : ℕ → ℕ → ℕ) → RunsFrom high b at → high ≡ true → (v k : ℕ) → k < b → element_bits b at ((v * 2 ^ k) % 2 ^ b) ≡ shifted_start k (element_bits b at v)
shl-high high b at ends is v k h =
    let runs = runs_from b at ends is in
    moved_start b at v _ k (omega arith)
    (λ i short. grind (arith, runs i, runs (i + k), bit_at_shl b v k (b - 1 - (i + k))))
    (λ i below past. grind (arith, runs i, bit_at_shl_left b v k (b - 1 - i)))

pub shl-low : (high : Bool) (b : ℕ) (at : ℕ → ℕ → ℕ) → RunsFrom high b at → high ≡ false → (v k : ℕ) → k < b → element_bits b at ((v * 2 ^ k) % 2 ^ b) ≡ shifted_end k (element_bits b at v)
shl-low high b at ends is v k h =
    let runs = runs_from b at ends is in
    moved_end b at v _ k (omega arith)
    (λ i low below. grind (arith, runs i, runs (i - k), bit_at_shl b v k (i - k)))
    (λ i below low. grind (arith, runs i, bit_at_shl_left b v k i))

pub shr-high : (high : Bool) (b : ℕ) (at : ℕ → ℕ → ℕ) → RunsFrom high b at → high ≡ true → (v k : ℕ) → v < 2 ^ b → k < b → element_bits b at (v / 2 ^ k) ≡ shifted_end k (element_bits b at v)
shr-high high b at ends is v k small h =
    let runs = runs_from b at ends is in
    moved_end b at v _ k (omega arith)
    (λ i low below. grind (arith, runs i, runs (i - k), bit_at_shr v k (b - 1 - i)))
    (λ i below low. grind (arith, runs i, bit_at_shr v k (b - 1 - i), bit_at_above v b (b - 1 - i + k) small))
