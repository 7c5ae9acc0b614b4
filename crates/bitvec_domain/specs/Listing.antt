-- Texts of lists.
use Rattle.std.specs.Prelude.{ℕ, ◌==◌, Bool, List, [], ◌++◌, codes, if◌then◌else◌}
use Rattle.std.specs.List.{join_by}

-- The text that stands between two items of a list: a comma and a space.
abbrev pub comma : List ℕ
comma = codes ", "

-- The text of a list: the texts of its items in brackets, with a comma and a space between two.
unfoldable pub listed : {X : Type 0} → (X → List ℕ) → List X → List ℕ
listed text items = codes "[" ++ (join_by text comma items ++ codes "]")

-- The text of a bit: `1` or `0`.
abbrev pub bit_text : Bool → List ℕ
bit_text bit = if bit then codes "1" else codes "0"

-- The text of a list of bits, such as `[0, 1, 0]`.
abbrev pub bits_text : List Bool → List ℕ
bits_text = listed bit_text

-- What stands before the item at an index: nothing before the first one, and a comma and a space before any other.
abbrev pub separator : ℕ → List ℕ
separator index = if index == 0 then [] else comma
