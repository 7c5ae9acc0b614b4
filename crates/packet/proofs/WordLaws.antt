-- What the calls that read words give.
use Rattle.std.proofs.Common.{◌≡◌, ℕ, ◌^◌, ◌<◌, true, List, [], ◌∷◌, refl, Result, Ok, Err, arith}
use Rattle.std.specs.Char.{digit_value, is_digit}
use Rattle.std.specs.List.{list_all}
use Rattle.std.specs.Result.{OkIff, result_ok}
use Rattle.std.specs.Str.Parse.{AllDigits, IsNumeral, digits_value}
use Rattle.std.proofs.lemmas.Bool.{and_parts}
use Rattle.std.proofs.lemmas.Bool.Decides.{nat_tests}
use Rattle.packet.specs.Arguments.{number_of}

digit_below : (byte radix : ℕ) → is_digit byte radix ≡ true → digit_value byte < radix
digit_below byte radix h = grind (arith, nat_tests)

all_digits : (radix : ℕ) (word : List ℕ) → list_all (λ byte. is_digit byte radix) word ≡ true → AllDigits radix word
all_digits radix [] h = tt
all_digits radix (byte ∷ word) h = let p = and_parts _ _ h in (digit_below byte radix p.0, all_digits radix word p.1)

has_digits : (radix : ℕ) (word : List ℕ) → AllDigits radix word → list_all (λ byte. is_digit byte radix) word ≡ true
has_digits radix [] all = refl
has_digits radix (byte ∷ word) all = let rest = has_digits radix word all.1 in grind (arith, nat_tests)

-- the number that is parsed of a word without a plus
pub number_of-parse : {E : Type 0} (radix : ℕ) (word : List ℕ) (r : Result ℕ E) → OkIff r (IsNumeral radix word × (digits_value radix word < 2 ^ 128)) (digits_value radix word) → result_ok r ≡ number_of radix word
unfolding number_of
number_of-parse radix word (Ok n) h = let digits = has_digits radix word h.0.0.1 in grind (arith, nat_tests)
number_of-parse radix word (Err e) h = let digits = all_digits radix word in grind (arith, nat_tests, digits, h)
