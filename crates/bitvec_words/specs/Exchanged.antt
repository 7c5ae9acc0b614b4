-- An element that is mirrored round by exchanging blocks of its bits, which are half as long each time.
use Rattle.std.specs.Prelude.{◌≡◌, ℕ, ◌+◌, ◌-◌, ◌*◌, ◌/◌, ◌%◌, ◌^◌, ◌<◌, ◌≤◌, bit_and, bit_or, bit_xor}
use Rattle.std.specs.Int.{bit_at}

-- v of b bits, in which each bit of `lower` is exchanged with the bit k places above it
unfoldable pub exchanged_bits : ℕ → ℕ → ℕ → ℕ → ℕ
exchanged_bits b k lower v = bit_or (bit_and (v / 2 ^ k) lower) ((bit_and v lower * 2 ^ k) % 2 ^ b)

-- the first, third, .. of the blocks of `half` bits, from those of twice as many
unfoldable pub halved_blocks : ℕ → ℕ → ℕ → ℕ
halved_blocks b half lower = bit_xor lower ((lower * 2 ^ half) % 2 ^ b)

-- of n blocks, `lower` has the bits of the first, the third and so on, and no other
abbrev pub HasLower : ℕ → ℕ → ℕ → Type 0
HasLower n size lower = (a t : ℕ) → a < n → t < size → bit_at lower (a * size + t) ≡ 1 - a % 2

-- `now` has the n blocks of `before` in the reverse order
abbrev pub HasReversed : ℕ → ℕ → ℕ → ℕ → Type 0
HasReversed n size now before = (a t : ℕ) → a < n → t < size → bit_at now (a * size + t) ≡ bit_at before ((n - 1 - a) * size + t)

-- b bits are whole blocks of `size`, which is a power of two, with these two facts of them
pub record ReversesBlocks (b size lower now before : ℕ) : Type 0 where
  pub halvings : ℕ
  pub power : size ≡ 2 ^ halvings
  pub fits : size ≤ b
  pub blocks : ℕ
  pub whole : b ≡ blocks * size
  pub has_lower : HasLower blocks size lower
  pub has_reversed : HasReversed blocks size now before
