-- What `parse` gives, in the definitions' words.
use Rattle.std.proofs.Common.{◌≡◌, ℕ, ◌<◌, ◌≤◌, true, List, Some, None, Result, Ok, Err, refl, arith}
use Rattle.std.specs.Result.{result_ok}
use Rattle.std.specs.Str.{all_ascii_digits}
use Rattle.std.specs.Str.Parse.{ParsesUnsigned, digits_value, without_leading_plus}
use Rattle.std.proofs.lemmas.Bool.Decides.{nat_tests}
use Rattle.std.proofs.lemmas.Str.Parse.{IsNumeralModel, numerals_by_value, tells_all_ascii_digits}
use Rattle.pages.specs.Words.{page_of}

own : IsNumeralModel (λ word. all_ascii_digits word ≡ true) (digits_value 10)
own = numerals_by_value _ tells_all_ascii_digits

pub page_of-some : {E : Type 0} (word : List ℕ) (r : Result ℕ E) (number : ℕ) → ParsesUnsigned 64 10 word r → result_ok r ≡ Some number → number < 4096 → page_of word ≡ Some number
page_of-some word (Ok n) number h is low =
    let digits = own.from (without_leading_plus word) h.0.0.1 in
    grind (arith, nat_tests, digits, h, is)
page_of-some word (Err e) number h is low = cc

pub page_of-none : {E : Type 0} (word : List ℕ) (r : Result ℕ E) → ParsesUnsigned 64 10 word r → ((number : ℕ) → result_ok r ≡ Some number → 4096 ≤ number) → page_of word ≡ None
page_of-none word (Ok n) h high =
    let large = high n refl in
    grind (arith, nat_tests, h, large)
page_of-none word (Err e) h high =
    let digits = own.to (without_leading_plus word) in
    grind (arith, nat_tests, digits, h)
