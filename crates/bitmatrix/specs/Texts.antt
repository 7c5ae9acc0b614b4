-- What is read and printed.
use Rattle.std.specs.Prelude.{ℕ, Bool, true, false, List, [], ◌∷◌, ◌++◌, codes, map}
use Rattle.std.specs.List.{flat_map, range_with_len}
use Rattle.bitmatrix.specs.Matrix.{row_of}

-- the text on a line of its own
abbrev pub line_of : List ℕ → List ℕ
line_of text = text ++ 10 ∷ []

-- a bit, and a row of them
abbrev pub bit_text : Bool → List ℕ
bit_text true = codes "1"
bit_text false = codes "0"

abbrev pub row_text : List Bool → List ℕ
row_text row = line_of (flat_map bit_text row)

-- the first k rows of n by n bits, and all of them
unfoldable pub rows_below : ℕ → ℕ → List Bool → List ℕ
rows_below k n bits = flat_map row_text (map (row_of n bits) (range_with_len 0 k))

abbrev pub rows_text : ℕ → List Bool → List ℕ
rows_text n bits = rows_below n n bits
