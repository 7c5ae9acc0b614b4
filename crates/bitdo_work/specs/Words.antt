-- What one word says, and the words of a line.
use denote.Ref.{Bor}
use Rattle.std.specs.Prelude.{ℕ, ◌^◌, Bool, true, false, ◌&&◌, ◌==◌, nat_lt, if◌then◌else◌, List, [], ◌∷◌, length, Option, Some, None, option_and_then, codes}
use Rattle.std.specs.List.{list_all, slice_split}
use Rattle.std.specs.Char.{is_ascii_digit}
use Rattle.std.specs.Str.{bytes_eq}
use Rattle.std.specs.Str.Parse.{digits_value}
use Rattle.bitvec_base.specs.declared.window.Window.{Window}
use Rattle.bitdo_work.specs.declared.words.Words.{Words}

infixl 10 ◌>>=◌
abbrev pub ◌>>=◌ : {A B : Type 0} → Option A → (A → Option B) → Option B
o >>= f = option_and_then f o

-- a word of one or more decimal digits whose number fits 64 bits
abbrev pub number_of : List ℕ → Option ℕ
number_of word =
    if nat_lt 0 (length word) && list_all is_ascii_digit word && nat_lt (digits_value 10 word) (2 ^ 64)
    then Some (digits_value 10 word) else None

abbrev pub bit_of : List ℕ → Option Bool
bit_of word = if bytes_eq word (codes "0") then Some false else if bytes_eq word (codes "1") then Some true else None

-- the words of a line: its parts between single spaces
abbrev pub words_of : List ℕ → List (List ℕ)
words_of line = slice_split (λ byte. byte == 32) line

-- the words that are still to come
abbrev pub words_in : Option (Bor (List ℕ)) → List (List ℕ)
words_in None = []
words_in (Some text) = words_of text.now

abbrev pub words_left : Words → List (List ℕ)
words_left words = words_in words.rest

-- ---- arguments: exactly as many words as the name says

abbrev pub no_argument : List (List ℕ) → Bool
no_argument [] = true
no_argument (word ∷ more) = false

abbrev pub one_word : List (List ℕ) → Option (List ℕ)
one_word (word ∷ []) = Some word
one_word _ = None

abbrev pub one_number : List (List ℕ) → Option ℕ
one_number words = one_word words >>= number_of

abbrev pub one_bit : List (List ℕ) → Option Bool
one_bit words = one_word words >>= bit_of

abbrev pub number_and_bit : List (List ℕ) → Option (ℕ × Bool)
number_and_bit [] = None
number_and_bit (first ∷ more) = do
  number ← number_of first
  last ← one_word more
  bit ← bit_of last
  Some (number, bit)

abbrev pub two_numbers : List (List ℕ) → Option (ℕ × ℕ)
two_numbers [] = None
two_numbers (first ∷ more) = do
  number ← number_of first
  other ← one_number more
  Some (number, other)

abbrev pub three_numbers : List (List ℕ) → Option (ℕ × ℕ × ℕ)
three_numbers [] = None
three_numbers (first ∷ more) = do
  number ← number_of first
  others ← two_numbers more
  Some (number, others.0, others.1)

-- a start and a length
abbrev pub one_window : List (List ℕ) → Option Window
one_window words = do
  numbers ← two_numbers words
  Some (record { start = numbers.0; len = numbers.1 })
