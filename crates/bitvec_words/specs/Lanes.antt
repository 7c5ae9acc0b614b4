-- Elements of 128 bits as two words of 64, the less significant one first.
use Rattle.std.specs.Prelude.{◌≡◌, ℕ, ◌+◌, ◌*◌, ◌^◌, ◌<◌, Bool, List, [], ◌∷◌, ◌++◌, if◌then◌else◌, length, take, drop, slice_index}
use Rattle.bitvec_base.specs.Memory.{element_bits}

-- the list is two words
pub record AreWords (words : List ℕ) : Type 0 where
  pub two : length words ≡ 2
  pub low : slice_index words 0 < 2 ^ 64
  pub high : slice_index words 1 < 2 ^ 64

-- the number of two words
abbrev pub number_of_words : List ℕ → ℕ
number_of_words words = slice_index words 1 * 2 ^ 64 + slice_index words 0

-- the two words that stand half a number into two numbers side by side, where the order starts at the most significant bit, if `high`
abbrev pub words_between : Bool → List ℕ → List ℕ → List ℕ
words_between high first second = if high then slice_index second 1 ∷ slice_index first 0 ∷ [] else slice_index first 1 ∷ slice_index second 0 ∷ []

-- a word that stands `skip` bits into two words side by side
abbrev pub IsJoined : (ℕ → ℕ → ℕ) → ℕ → ℕ → ℕ → ℕ → Type 0
IsJoined at skip first second word = element_bits 64 at word ≡ drop skip (element_bits 64 at first) ++ take skip (element_bits 64 at second)

-- two words, each joined so
pub record AreJoined (at : ℕ → ℕ → ℕ) (skip : ℕ) (first second words : List ℕ) : Type 0 where
  pub low : IsJoined at skip (slice_index first 0) (slice_index second 0) (slice_index words 0)
  pub high : IsJoined at skip (slice_index first 1) (slice_index second 1) (slice_index words 1)
