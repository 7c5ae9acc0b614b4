-- The places of keys in a filter.
use Rattle.std.specs.Prelude.{◌≡◌, ◌≢◌, ℕ, ◌*◌, ◌/◌, ◌%◌, ◌^◌, ◌<◌, true, false, slice_index_or, bit_xor}
use Rattle.bitvec.specs.Arrays.{lsb0_bits}
use Rattle.device.specs.declared.bloom.Bloom.{Bloom}

-- a number made of a key and a round, of 64 bits
abbrev pub mixed : ℕ → ℕ → ℕ
mixed key round =
    let seed : ℕ = bit_xor key (round * 0x9E3779B97F4A7C15 % 2 ^ 64) in
    bit_xor seed (seed / 2 ^ 33) * 0xFF51AFD7ED558CCD % 2 ^ 64

-- the place of a key in a round, of 256
unfoldable pub place_of : ℕ → ℕ → ℕ
place_of key round = mixed key round / 2 ^ 56

-- every bit is a zero
abbrev pub IsEmpty : Bloom → Type 0
IsEmpty filter = (place : ℕ) → place < 256 → slice_index_or (lsb0_bits 64 filter.words) place false ≡ false

-- the key's places in the first so many rounds are ones
abbrev pub Has : ℕ → Bloom → ℕ → Type 0
Has rounds filter key = (round : ℕ) → round < rounds → slice_index_or (lsb0_bits 64 filter.words) (place_of key round) false ≡ true

-- they are ones now, each bit that was a one is one still, and no bit elsewhere changed
pub record Inserts (rounds key : ℕ) (old new : Bloom) : Type 0 where
  pub has : Has rounds new key
  pub adds : (place : ℕ) → slice_index_or (lsb0_bits 64 old.words) place false ≡ true → slice_index_or (lsb0_bits 64 new.words) place false ≡ true
  pub others : (place : ℕ) → ((round : ℕ) → round < rounds → place ≢ place_of key round) → slice_index_or (lsb0_bits 64 new.words) place false ≡ slice_index_or (lsb0_bits 64 old.words) place false
