-- What the calls that cut and read words give, in the definitions' words.
use denote.Ref.{Bor}
use Rattle.std.proofs.Common.{◌≡◌, ℕ, ◌^◌, ◌<◌, Bool, true, false, not, eqb, List, [], ◌∷◌, length, Option, Some, None, is_some, Result, Ok, Err, refl, sym, ap, ◌∙◌, arith, rules}
use Rattle.std.specs.Char.{is_ascii_digit}
use Rattle.std.specs.List.{list_all, before_first, after_first, position_or_len}
use Rattle.std.specs.Result.{OkIff, result_ok}
use Rattle.std.specs.Str.Parse.{IsNumeral, digits_value}
use Rattle.std.proofs.lemmas.Bool.Decides.{nat_tests}
use Rattle.std.proofs.lemmas.List.Splits.{slice_split_first, slice_split_none, length-slice_split}
use Rattle.std.proofs.lemmas.List.Sums.{fails_before_first}
use Rattle.std.proofs.lemmas.Str.Parse.{IsDigitsTest, IsNumeralModel, numerals_by_value}
use Rattle.bitdo_work.specs.Words.{number_of, words_in, words_of, no_argument, one_word}

tells_digits : IsDigitsTest (λ word. list_all is_ascii_digit word ≡ true)
tells_digits = search rules

own : IsNumeralModel (λ word. list_all is_ascii_digit word ≡ true) (digits_value 10)
own = numerals_by_value _ tells_digits

-- the number that is parsed of a word without a plus
pub number_of-parse : {E : Type 0} (word : List ℕ) (r : Result ℕ E) → OkIff r (IsNumeral 10 word × (digits_value 10 word < 2 ^ 64)) (digits_value 10 word) → result_ok r ≡ number_of word
number_of-parse word (Ok n) h = let digits = own.from word h.0.0.1 in grind (arith, nat_tests)
number_of-parse word (Err e) h = let digits = own.to word in grind (arith, nat_tests, digits, h)

abbrev is_space : ℕ → Bool
is_space byte = eqb byte 32

-- the words of a text with a space, and of one without
pub words_of-cut : (text word rest : List ℕ) → word ≡ before_first (λ byte. eqb byte 32) text → rest ≡ after_first (λ byte. eqb byte 32) text
    → position_or_len (λ byte. eqb byte 32) text < length text → words_of text ≡ word ∷ words_of rest
words_of-cut text word rest front after some = slice_split_first is_space text 0 some ∙ (λ i. sym front i ∷ words_of (sym after i))

pub words_of-last : (text : List ℕ) → position_or_len (λ byte. eqb byte 32) text ≡ length text → words_of text ≡ text ∷ []
words_of-last text none = slice_split_none is_space text (λ k d within. fails_before_first is_space text k d (omega arith))

-- a text has a word, if only the empty one
no_argument-some : (words : List (List ℕ)) → 0 < length words → no_argument words ≡ false
no_argument-some [] some = absurd (omega arith)
no_argument-some (word ∷ words) some = refl

one_word-some : (word : List ℕ) (words : List (List ℕ)) → 0 < length words → one_word (word ∷ words) ≡ None
one_word-some word [] some = absurd (omega arith)
one_word-some word (next ∷ words) some = refl

words_of_some : (text : List ℕ) → 0 < length (words_of text)
words_of_some text = omega (arith, length-slice_split is_space text)

pub no_argument-words_in : (rest : Option (Bor (List ℕ))) → is_some rest ≡ not (no_argument (words_in rest))
no_argument-words_in None = refl
no_argument-words_in (Some text) = sym (ap not (no_argument-some (words_of text.now) (words_of_some text.now)))

pub one_word-words_of : (word text : List ℕ) → one_word (word ∷ words_of text) ≡ None
one_word-words_of word text = one_word-some word (words_of text) (words_of_some text)
