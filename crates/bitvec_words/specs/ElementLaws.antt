-- The bits of what is made of two elements bit by bit.
use Rattle.std.proofs.lemmas.Bool.Decides.{nat_tests}
use Rattle.std.specs.Prelude.{◌≡◌, ℕ, ◌+◌, ◌%◌, ◌<◌, ◌==◌, min, max, Bool, not, ◌&&◌, ◌||◌, bit_and, bit_or, bit_xor}
use Rattle.std.specs.Int.{bit_at}
use Rattle.std.proofs.Common.{arith, ◌∙◌, ap}
use Rattle.std.proofs.lemmas.Nat.Bits.{bit_at_and, bit_at_or, bit_at_xor, bit_at-lt}
use Rattle.bitvec_base.specs.Lists.{combined, differs}
use Rattle.bitvec_base.specs.ListsLaws.{combined-is}
use Rattle.bitvec_base.specs.Memory.{element_bits}
use Rattle.bitvec_base.specs.MemoryLaws.{length-element_bits, get-element_bits}

-- ---- bit by bit

-- a number each of whose bits is what f makes of those of two numbers
pub element-combined : (b : ℕ) (at : ℕ → ℕ → ℕ) (f : Bool → Bool → Bool) (v w u : ℕ) → ((p : ℕ) → (bit_at u p == 1) ≡ f (bit_at v p == 1) (bit_at w p == 1)) → element_bits b at u ≡ combined f (element_bits b at v) (element_bits b at w)
element-combined b at f v w u each =
    combined-is f (element_bits b at v) (element_bits b at w) (element_bits b at u) (grind (arith, length-element_bits)) (λ k inside. grind (arith, each (at b k), length-element_bits, get-element_bits))

-- two bits
both : (c d : ℕ) → c < 2 → d < 2 → (min c d == 1) ≡ ((c == 1) && (d == 1))
both c d hc hd = grind (arith, nat_tests)

either : (c d : ℕ) → c < 2 → d < 2 → (max c d == 1) ≡ ((c == 1) || (d == 1))
either c d hc hd = grind (arith, nat_tests)

one : (c d : ℕ) → c < 2 → d < 2 → ((c + d) % 2 == 1) ≡ differs (c == 1) (d == 1)
one c d hc hd = grind (arith, nat_tests)

without : (c d : ℕ) → c < 2 → d < 2 → ((c + min c d) % 2 == 1) ≡ ((c == 1) && not (d == 1))
without c d hc hd = grind (arith, nat_tests)

pub element-and : (b : ℕ) (at : ℕ → ℕ → ℕ) (v w : ℕ) → element_bits b at (bit_and v w) ≡ combined ◌&&◌ (element_bits b at v) (element_bits b at w)
element-and b at v w = element-combined b at ◌&&◌ v w (bit_and v w) (λ p. ap (λ (c : ℕ). c == 1) (bit_at_and v w p) ∙ both _ _ (bit_at-lt v p) (bit_at-lt w p))

pub element-or : (b : ℕ) (at : ℕ → ℕ → ℕ) (v w : ℕ) → element_bits b at (bit_or v w) ≡ combined ◌||◌ (element_bits b at v) (element_bits b at w)
element-or b at v w = element-combined b at ◌||◌ v w (bit_or v w) (λ p. ap (λ (c : ℕ). c == 1) (bit_at_or v w p) ∙ either _ _ (bit_at-lt v p) (bit_at-lt w p))

pub element-xor : (b : ℕ) (at : ℕ → ℕ → ℕ) (v w : ℕ) → element_bits b at (bit_xor v w) ≡ combined differs (element_bits b at v) (element_bits b at w)
element-xor b at v w = element-combined b at differs v w (bit_xor v w) (λ p. ap (λ (c : ℕ). c == 1) (bit_at_xor v w p) ∙ one _ _ (bit_at-lt v p) (bit_at-lt w p))

pub element-and_not : (b : ℕ) (at : ℕ → ℕ → ℕ) (v w : ℕ) → element_bits b at (bit_xor v (bit_and v w)) ≡ combined (λ bit other. bit && not other) (element_bits b at v) (element_bits b at w)
element-and_not b at v w =
    let f = λ (bit other : Bool). bit && not other in
    element-combined b at f v w (bit_xor v (bit_and v w)) (λ p.
    ap (λ (c : ℕ). c == 1) (bit_at_xor v (bit_and v w) p ∙ ap (λ (d : ℕ). (bit_at v p + d) % 2) (bit_at_and v w p))
    ∙ without _ _ (bit_at-lt v p) (bit_at-lt w p))
