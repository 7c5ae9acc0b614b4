-- What the calls that read words give, in the definitions' words.
use Rattle.std.proofs.Common.{◌≡◌, ℕ, ◌^◌, ◌<◌, ◌≤◌, true, List, [], ◌∷◌, length, get_or, None, Result, Ok, Err, refl, arith}
use Rattle.std.specs.Result.{OkIff, result_ok}
use Rattle.std.specs.Str.{all_ascii_digits}
use Rattle.std.specs.Str.Parse.{IsNumeral, digits_value}
use Rattle.std.proofs.lemmas.Bool.Decides.{nat_tests}
use Rattle.std.proofs.lemmas.Str.Parse.{IsNumeralModel, numerals_by_value, tells_all_ascii_digits}
use Rattle.sieve.specs.Requests.{number_of, request_of}

own : IsNumeralModel (λ word. all_ascii_digits word ≡ true) (digits_value 10)
own = numerals_by_value _ tells_all_ascii_digits

-- the number that is parsed of a word without a plus
pub number_of-parse : {E : Type 0} (word : List ℕ) (r : Result ℕ E) → OkIff r (IsNumeral 10 word × (digits_value 10 word < 2 ^ 64)) (digits_value 10 word) → result_ok r ≡ number_of word
number_of-parse word (Ok n) h = let digits = own.from word h.0.0.1 in grind (arith, nat_tests)
number_of-parse word (Err e) h = let digits = own.to word in grind (arith, nat_tests, digits, h)

-- two words, three, and any other number of them
pub two : {A : Type 0} (xs : List A) (a b : A) → 2 ≤ length xs → length xs < 3 → a ≡ get_or xs 0 a → b ≡ get_or xs 1 b → xs ≡ a ∷ b ∷ []
two [] a b low high pa pb = absurd (omega arith)
two (x ∷ []) a b low high pa pb = absurd (omega arith)
two (x ∷ y ∷ []) a b low high pa pb = cc
two (x ∷ y ∷ z ∷ more) a b low high pa pb = absurd (omega arith)

pub three : {A : Type 0} (xs : List A) (a b c : A) → 3 ≤ length xs → length xs < 4 → a ≡ get_or xs 0 a → b ≡ get_or xs 1 b → c ≡ get_or xs 2 c → xs ≡ a ∷ b ∷ c ∷ []
three [] a b c low high pa pb pc = absurd (omega arith)
three (x ∷ []) a b c low high pa pb pc = absurd (omega arith)
three (x ∷ y ∷ []) a b c low high pa pb pc = absurd (omega arith)
three (x ∷ y ∷ z ∷ []) a b c low high pa pb pc = cc
three (x ∷ y ∷ z ∷ u ∷ more) a b c low high pa pb pc = absurd (omega arith)

pub request_of-other : (words : List (List ℕ)) → (length words ≡ 2 → ⊥) → (length words ≡ 3 → ⊥) → request_of words ≡ None
unfolding request_of
request_of-other [] two three = refl
request_of-other (x ∷ []) two three = refl
request_of-other (x ∷ y ∷ []) two three = absurd (two refl)
request_of-other (x ∷ y ∷ z ∷ []) two three = absurd (three refl)
request_of-other (x ∷ y ∷ z ∷ u ∷ more) two three = refl
