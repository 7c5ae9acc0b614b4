-- One bit of a window: which place of the memory it is, and how it is tested and written.
use Rattle.std.specs.Prelude.{◌≡◌, ℕ, ◌+◌, ◌*◌, ◌^◌, ◌<◌, ◌==◌, false, not, nat_eq, List, length, slice_index_or, bit_and, zero, suc}
use Rattle.std.specs.Int.{bit_at}
use Rattle.std.proofs.Common.{arith, ◌∙◌, ap}
use Rattle.std.proofs.lemmas.Bool.{ne_eqb}
use Rattle.std.proofs.lemmas.Nat.{pow_pos}
use Rattle.std.proofs.lemmas.Nat.Bits.{and_pow, bit_at-lt}
use Rattle.bitvec_base.specs.declared.window.Window.{Window}
use Rattle.bitvec_base.specs.Memory.{place_bit, memory_bits}
use Rattle.bitvec_base.specs.Window.{IsWithin, window_of}
use Rattle.bitvec_base.specs.WriteLaws.{get-slice_range}
use Rattle.bitvec_base.specs.MemoryLaws.{get-memory_bits}

-- a weighted bit is not 0 exactly where the bit is 1
weighted : (c w : ℕ) → c < 2 → 0 < w → not (nat_eq (c * w) 0) ≡ (c == 1)
weighted zero w h some = ap (λ (n : ℕ). not (nat_eq n 0)) (let e : 0 * w ≡ 0 = omega arith in e)
weighted (suc zero) zero h some = absurd (omega arith)
weighted (suc zero) (suc w) h some = ap not (ne_eqb (1 * suc w) 0 (λ e. omega arith))
weighted (suc (suc c)) w h some = absurd (omega arith)

pub tested : (v p : ℕ) → not (nat_eq (bit_and v (2 ^ p)) 0) ≡ (bit_at v p == 1)
tested v p = rw (and_pow v p) (weighted (bit_at v p) (2 ^ p) (bit_at-lt v p) (pow_pos p))

-- the bit at an index of a window
pub get-window : (b : ℕ) (at : ℕ → ℕ → ℕ) (xs : List ℕ) {window : Window} {k : ℕ} → IsWithin window (b * length xs) → k < window.len → slice_index_or (window_of (memory_bits b at xs) window) k false ≡ place_bit b at xs (window.start + k)
unfolding window_of
get-window b at xs {window} {k} within h =
    let start = within.start in
    let len = within.len in
    get-slice_range (memory_bits b at xs) window.start (window.start + window.len) k false (omega arith)
    ∙ get-memory_bits b at xs (window.start + k) false (omega arith)
