-- Memories and windows at values.
use Rattle.std.specs.Prelude.{◌≡◌, ℕ, ◌-◌, true, false, [], ◌∷◌, ◌++◌, replicate, refl}
use Rattle.bitvec_cells.specs.Cost.{touched_count}
use Rattle.bitvec.specs.Arrays.{hilo_bits, lsb0_bits, msb0_bits}
use Rattle.bitvec.specs.Copies.{copy_start}
use Rattle.bitvec.specs.Memory.{element_bits, list_in, memory_bits, place_bit}
use Rattle.bitvec.specs.Order.{mask_of}
use Rattle.bitvec.specs.Touched.{end_touched, first_touched, touched_elements}
use Rattle.bitvec.specs.Window.{window_after, window_of, window_range, window_until, write_at, write_window}

-- `00 04` under `Lsb0` is ten zeros, a 1 and five zeros
pub memory_bits-1 : memory_bits 8 (λ _ i. i) (0 ∷ 4 ∷ []) ≡ replicate 10 false ++ (true ∷ replicate 5 false)
unfolding memory_bits place_bit
memory_bits-1 = refl

-- `80` under `Msb0` is a 1 and seven zeros
pub element_bits-1 : element_bits 8 (λ b i. b - 1 - i) 128 ≡ true ∷ replicate 7 false
unfolding element_bits
element_bits-1 = refl

pub window_of-1 : window_of (false ∷ true ∷ true ∷ false ∷ []) (record { start = 1; len = 2 }) ≡ true ∷ true ∷ []
unfolding window_of
window_of-1 = refl

pub list_in-1 : list_in 8 (λ _ i. i) (0 ∷ 4 ∷ []) (record { start = 9; len = 3 }) ≡ false ∷ true ∷ false ∷ []
unfolding window_of memory_bits place_bit
list_in-1 = refl

pub write_at-1 : write_at (false ∷ false ∷ false ∷ false ∷ []) 1 (true ∷ true ∷ []) ≡ false ∷ true ∷ true ∷ false ∷ []
unfolding write_at
write_at-1 = refl

pub write_window-1 : write_window (false ∷ false ∷ false ∷ []) (record { start = 1; len = 1 }) (true ∷ []) ≡ false ∷ true ∷ false ∷ []
unfolding write_at
write_window-1 = refl

pub window_range-1 : window_range (record { start = 3; len = 18 }) 2 6 ≡ record { start = 5; len = 4 }
window_range-1 = refl

pub window_after-1 : window_after 5 (record { start = 3; len = 18 }) ≡ record { start = 8; len = 13 }
window_after-1 = refl

pub window_until-1 : window_until 5 (record { start = 3; len = 18 }) ≡ record { start = 3; len = 13 }
window_until-1 = refl

-- 5 is the byte 00000101
pub lsb0_bits-1 : lsb0_bits 8 (5 ∷ []) ≡ true ∷ false ∷ true ∷ replicate 5 false
unfolding memory_bits place_bit
lsb0_bits-1 = refl

pub msb0_bits-1 : msb0_bits 8 (5 ∷ []) ≡ replicate 5 false ++ (true ∷ false ∷ true ∷ [])
unfolding memory_bits place_bit
msb0_bits-1 = refl

pub hilo_bits-1 : hilo_bits 8 (5 ∷ []) ≡ replicate 4 false ++ (true ∷ false ∷ true ∷ false ∷ [])
unfolding memory_bits place_bit
hilo_bits-1 = refl

-- of a byte under `Lsb0` and under `Msb0`: the bits 2, 3 and 4, and the bits 5, 4 and 3
pub mask_of-1 : mask_of (λ i. i) 2 5 ≡ 28
unfolding mask_of
mask_of-1 = refl

pub mask_of-2 : mask_of (λ i. 7 - i) 2 5 ≡ 56
unfolding mask_of
mask_of-2 = refl

-- the places 6 and 7 are in the first byte, 8 and 9 in the second
pub touched_count-1 : touched_count 8 6 4 ≡ 2
unfolding touched_count
touched_count-1 = refl

pub touched_count-2 : touched_count 8 6 0 ≡ 0
unfolding touched_count
touched_count-2 = refl

pub first_touched-1 : first_touched 8 13 ≡ 1
first_touched-1 = refl

pub end_touched-1 : end_touched 8 17 ≡ 3
end_touched-1 = refl

pub touched_elements-1 : touched_elements {X = ℕ} 8 (10 ∷ 20 ∷ 30 ∷ 40 ∷ []) 13 17 ≡ 20 ∷ 30 ∷ []
touched_elements-1 = refl

pub copy_start-1 : copy_start 8 (record { start = 13; len = 4 }) ≡ 5
copy_start-1 = refl

pub copy_start-2 : copy_start 8 (record { start = 13; len = 0 }) ≡ 0
copy_start-2 = refl
