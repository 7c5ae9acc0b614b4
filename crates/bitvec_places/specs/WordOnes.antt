-- The ones of a word.
use Rattle.std.specs.Prelude.{ℕ, ◌==◌, List, filter}
use Rattle.std.specs.List.{range_with_len}
use Rattle.std.specs.Int.{bit_at}

-- the numbers of the bits of a word that are 1, ascending from the least significant one, which is number 0
unfoldable pub word_ones : ℕ → List ℕ
word_ones word = filter (λ i. bit_at word i == 1) (range_with_len 0 64)

-- The indices, under an order, of the bits of a word that are 1, ascending.
unfoldable pub order_ones : (ℕ → ℕ → ℕ) → ℕ → List ℕ
order_ones at word = filter (λ i. bit_at word (at 64 i) == 1) (range_with_len 0 64)
