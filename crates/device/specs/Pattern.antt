-- Eight bytes with a pattern, the lowest bit of each first.
use Rattle.std.specs.Prelude.{◌≡◌, ◌≢◌, ℕ, ◌%◌, ◌<◌, ◌≤◌, ◌⊎◌, List, false, true, slice_index_or}
use Rattle.bitvec.specs.Arrays.{lsb0_bits}
use Rattle.bitvec.specs.Ranges.{number_in}

-- one of the 64 places that is neither bit 3 nor in the ones nor in the number
pub record IsUnmarked (place : ℕ) : Type 0 where
  pub inside : place < 64
  pub mark : place ≢ 3
  pub ones : (place < 20) ⊎ (40 ≤ place)
  pub number : (place < 5) ⊎ (17 ≤ place)

-- bit 3 and the bits from 20 to 39 are ones, those from 5 to 16 the lowest of the number, and the others zeros
pub record HasPattern (number : ℕ) (bytes : List ℕ) : Type 0 where
  pub mark : slice_index_or (lsb0_bits 8 bytes) 3 false ≡ true
  pub ones : (place : ℕ) → 20 ≤ place → place < 40 → slice_index_or (lsb0_bits 8 bytes) place false ≡ true
  pub number_is : number_in false false 8 (lsb0_bits 8 bytes) 5 17 ≡ number % 4096
  pub rest : (place : ℕ) → IsUnmarked place → slice_index_or (lsb0_bits 8 bytes) place false ≡ false
