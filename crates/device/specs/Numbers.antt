-- Words of decimal digits.
use Rattle.std.specs.Prelude.{ℕ, ◌^◌, ◌&&◌, nat_lt, if◌then◌else◌, List, [], ◌∷◌, ◌++◌, fold, length, Option, Some, None, option_and_then}
use Rattle.std.specs.Char.{is_ascii_digit}
use Rattle.std.specs.List.{list_all}
use Rattle.numerals.specs.Numerals.{number_of}

infixl 10 ◌>>=◌
abbrev pub ◌>>=◌ : {A B : Type 0} → Option A → (A → Option B) → Option B
o >>= f = option_and_then f o

-- the numbers of words, of 64 bits
abbrev pub with_number : Option (List ℕ) → List ℕ → Option (List ℕ)
with_number numbers word = numbers >>= λ before. number_of 64 word >>= λ number. Some (before ++ number ∷ [])

abbrev pub numbers_of : List (List ℕ) → Option (List ℕ)
numbers_of words = fold with_number (Some []) words
