-- Square matrices of bits, row after row, as relations: place i leads to place j where the bit in row i and column j is 1.
use Rattle.std.specs.Prelude.{◌≡◌, ◌≢◌, ◌↔◌, ℕ, ◌+◌, ◌*◌, ◌<◌, ◌||◌, ◌&&◌, ◌⊎◌, Bool, true, false, List, slice_index_or, slice_range}

-- the bit in row i and column j of n by n bits
unfoldable pub entry : ℕ → List Bool → ℕ → ℕ → Bool
entry n bits i j = slice_index_or bits (i * n + j) false

-- the bits of row i
abbrev pub row_of : ℕ → List Bool → ℕ → List Bool
row_of n bits i = slice_range bits (i * n) (i * n + n)

-- a path from i to j along ones
pub data Path (n : ℕ) (bits : List Bool) : ℕ → ℕ → Type 0 where
  edge : (i j : ℕ) → i < n → j < n → entry n bits i j ≡ true → Path n bits i j
  join : (i m j : ℕ) → Path n bits i m → Path n bits m j → Path n bits i j

-- the transitive closure: each bit of the new matrix is 1 exactly where a path of the old one leads from its row to its column
unfoldable pub Closes : ℕ → List Bool → List Bool → Type 0
Closes n old new = (i j : ℕ) → i < n → j < n → (entry n new i j ≡ true) ↔ Path n old i j

-- each place but the last leads to the next one, and to no other
unfoldable pub IsChain : ℕ → List Bool → Type 0
IsChain n bits = (i j : ℕ) → i < n → j < n → (entry n bits i j ≡ true) ↔ (j ≡ i + 1)

-- each bit of row `target` is 1 where it was or where the one of row `source` in its column was; all other rows are as before
pub record JoinsRow (n target source : ℕ) (old new : List Bool) : Type 0 where
  pub row : (j : ℕ) → j < n → entry n new target j ≡ (entry n old target j || entry n old source j)
  pub others : (i j : ℕ) → i < n → j < n → i ≢ target → entry n new i j ≡ entry n old i j

-- the bit in row i and column j is 1; all others are as before
pub record SetsEntry (n i j : ℕ) (old new : List Bool) : Type 0 where
  pub here : entry n new i j ≡ true
  pub others : (r c : ℕ) → r < n → c < n → (r ≢ i) ⊎ (c ≢ j) → entry n new r c ≡ entry n old r c

-- no bit is 1
unfoldable pub IsEmpty : ℕ → List Bool → Type 0
IsEmpty n bits = (i j : ℕ) → i < n → j < n → entry n bits i j ≡ false

-- each bit is 1 where it was or where one leads to k and one from k
unfoldable pub Passes : ℕ → ℕ → List Bool → List Bool → Type 0
Passes n k old new = (i j : ℕ) → i < n → j < n → entry n new i j ≡ (entry n old i j || (entry n old i k && entry n old k j))
