-- The checksum of a header: the ones' complement sum of its words is 0xFFFF where it is right.
use Rattle.std.specs.Prelude.{◌≡◌, ℕ, ◌+◌, ◌-◌, nat_lt, if◌then◌else◌, List, fold, slice_set}

-- the sum of two words, to which the carry is added
abbrev pub add_words : ℕ → ℕ → ℕ
add_words x y = if nat_lt (x + y) 65536 then x + y else x + y - 65535

abbrev pub sum_words : List ℕ → ℕ
sum_words words = fold add_words 0 words

abbrev pub IsRight : List ℕ → Type 0
IsRight words = sum_words words ≡ 65535

-- the number of the checksum among the words of the header
abbrev pub checksum_word : ℕ
checksum_word = 5

-- the checksum of these words: what is wanting in the sum of the others
abbrev pub checksum_of : List ℕ → ℕ
checksum_of words = 65535 - sum_words (slice_set words checksum_word 0)
