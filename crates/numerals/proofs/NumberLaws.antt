-- What `parse` gives, in the definitions' words.
use Rattle.std.proofs.Common.{◌≡◌, ℕ, true, List, Result, Ok, Err, arith, rules}
use Rattle.std.specs.Char.{is_ascii_digit}
use Rattle.std.specs.List.{list_all}
use Rattle.std.specs.Result.{result_ok}
use Rattle.std.specs.Str.Parse.{ParsesUnsigned, digits_value, without_leading_plus}
use Rattle.std.proofs.lemmas.Bool.Decides.{nat_tests}
use Rattle.std.proofs.lemmas.Str.Parse.{IsDigitsTest, IsNumeralModel, numerals_by_value}
use Rattle.numerals.specs.Numerals.{number_of}

tells_digits : IsDigitsTest (λ word. list_all is_ascii_digit word ≡ true)
tells_digits = search rules

own : IsNumeralModel (λ word. list_all is_ascii_digit word ≡ true) (digits_value 10)
own = numerals_by_value _ tells_digits

pub number_of-parse : {E : Type 0} (bits : ℕ) (word : List ℕ) (r : Result ℕ E) → ParsesUnsigned bits 10 word r → result_ok r ≡ number_of bits word
unfolding number_of
number_of-parse bits word (Ok n) h =
    let digits = own.from (without_leading_plus word) h.0.0.1 in
    grind (arith, nat_tests, digits, h)
number_of-parse bits word (Err e) h =
    let digits = own.to (without_leading_plus word) in
    grind (arith, nat_tests, digits, h)
