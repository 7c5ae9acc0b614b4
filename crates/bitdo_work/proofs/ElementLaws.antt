-- Hexadecimal digits: what `from_str_radix` reads, and that an element's number fits its width.
use Rattle.std.proofs.Common.{◌≡◌, ◌≢◌, ℕ, ◌^◌, ◌<◌, ◌≤◌, Bool, true, false, ◌&&◌, List, [], ◌∷◌, length, IfSome, lit<, eqb-true, if◌then◌else◌, ◌==◌, Some, None, Result, Ok, refl, sym, ap, subst, ◌∙◌, arith}
use Rattle.std.specs.Char.{is_ascii_hexdigit, digit_value}
use Rattle.std.specs.List.{list_all}
use Rattle.std.specs.Result.{result_ok, OkIff}
use Rattle.std.specs.Str.Parse.{ParsesUnsigned, IsNumeral, digits_value, AllDigits, without_leading_plus}
use Rattle.std.proofs.lemmas.Bool.{and_parts}
use Rattle.std.proofs.lemmas.Bool.Decides.{nat_tests}
use Rattle.std.proofs.lemmas.Result.{Ok-from_Ok_iff}
use Rattle.std.proofs.Math.Nat.{pow-le-pow_right}
use Rattle.std.proofs.lemmas.Int.Digits.{digits_value-lt}
use Rattle.std.proofs.lemmas.Str.Parse.{without_leading_plus_none}
use Rattle.bitdo_work.specs.Elements.{hexadecimal_of}

digit_value-hexadecimal : (byte : ℕ) → is_ascii_hexdigit byte ≡ true → digit_value byte < 16
digit_value-hexadecimal byte h = grind (arith, nat_tests)

hexadecimal_not_plus : (byte : ℕ) → is_ascii_hexdigit byte ≡ true → byte ≢ 43
hexadecimal_not_plus byte h = grind (arith, nat_tests)

all_digits : (word : List ℕ) → list_all is_ascii_hexdigit word ≡ true → AllDigits 16 word
all_digits [] h = tt
all_digits (byte ∷ word) h = let p = and_parts _ _ h in (digit_value-hexadecimal byte p.0, all_digits word p.1)

no_plus : (word : List ℕ) → list_all is_ascii_hexdigit word ≡ true → without_leading_plus word ≡ word
no_plus [] h = without_leading_plus_none [] (λ e. omega arith)
no_plus (byte ∷ word) h = without_leading_plus_none (byte ∷ word) (hexadecimal_not_plus byte (and_parts _ _ h).0)

value_bound : (word : List ℕ) (count : ℕ) → length word ≡ count → list_all is_ascii_hexdigit word ≡ true → digits_value 16 word < 16 ^ count
value_bound word count len digits = subst (λ n. digits_value 16 word < 16 ^ n) len (digits_value-lt 16 word (all_digits word digits))

widest : (count : ℕ) → count ≤ 32 → 16 ^ count ≤ 2 ^ 128
widest count fits = pow-le-pow_right {n = 16} (lit< tt) fits

hexadecimal_of-digits : (word : List ℕ) (count : ℕ) → length word ≡ count → list_all is_ascii_hexdigit word ≡ true → hexadecimal_of count word ≡ Some (digits_value 16 word)
unfolding hexadecimal_of
hexadecimal_of-digits word count len digits = grind (arith, nat_tests)

parsed : {E : Type 0} (word : List ℕ) (count : ℕ) (r : Result ℕ E) → ParsesUnsigned 128 16 word r → length word ≡ count → list_all is_ascii_hexdigit word ≡ true
    → 0 < count → count ≤ 32 → r ≡ Ok (digits_value 16 word)
parsed {E} word count r h len digits some fits =
    let plain : OkIff r (IsNumeral 16 word × (digits_value 16 word < 2 ^ 128)) (digits_value 16 word) =
    subst (λ text. OkIff r (IsNumeral 16 text × (digits_value 16 text < 2 ^ 128)) (digits_value 16 text)) (no_plus word digits) h in
    let small : digits_value 16 word < 16 ^ count = value_bound word count len digits in
    let room : 16 ^ count ≤ 2 ^ 128 = widest count fits in
    Ok-from_Ok_iff r _ _ plain ((omega arith, all_digits word digits), omega arith)

pub hexadecimal_of-parse : {E : Type 0} (word : List ℕ) (count : ℕ) (r : Result ℕ E) → ParsesUnsigned 128 16 word r → length word ≡ count → list_all is_ascii_hexdigit word ≡ true
    → 0 < count → count ≤ 32 → result_ok r ≡ hexadecimal_of count word
hexadecimal_of-parse word count r h len digits some fits =
    ap result_ok (parsed word count r h len digits some fits) ∙ sym (hexadecimal_of-digits word count len digits)

bound_by_test : (b : Bool) (number most : ℕ) → (b ≡ true → number < most) → IfSome (if b then Some number else None) (λ n. n < most)
bound_by_test true number most h = h refl
bound_by_test false number most h = tt

tested : (word : List ℕ) (count : ℕ) → (length word == count && list_all is_ascii_hexdigit word) ≡ true → digits_value 16 word < 16 ^ count
tested word count h = let p = and_parts _ _ h in value_bound word count (eqb-true _ _ p.0) p.1

pub hexadecimal_of-bound : (word : List ℕ) (count : ℕ) → IfSome (hexadecimal_of count word) (λ number. number < 16 ^ count)
unfolding hexadecimal_of
hexadecimal_of-bound word count = bound_by_test _ _ _ (tested word count)

pub hexadecimal_of-other : (word : List ℕ) (count : ℕ) → (length word == count && list_all is_ascii_hexdigit word) ≡ false → hexadecimal_of count word ≡ None
unfolding hexadecimal_of
hexadecimal_of-other word count other = rw other refl
