-- Bytes of digits and digits of a text, one more at the end.
use Rattle.std.proofs.Common.{◌≡◌, ℕ, ◌+◌, ◌-◌, ◌*◌, ◌<◌, Bool, true, false, not, ◌&&◌, ◌||◌, nat_lt, List, [], ◌∷◌, ◌++◌, filter, length, map, take, get_or, refl, ap, ◌∙◌, arith, append_assoc}
use Rattle.std.specs.Char.{digit_value, is_ascii_whitespace}
use Rattle.std.specs.Prelude.{if◌then◌else◌}
use Rattle.std.proofs.lemmas.List.{append-nil, length-take, map-append, take_more}
use Rattle.std.proofs.lemmas.List.Elements.{filter-append}
use Rattle.std.proofs.lemmas.List.Folds.{list_all_more}
use Rattle.packet.specs.Digits.{bytes_of, digits_of, has_digits}

bytes_of-push : (n : ℕ) (digits : List ℕ) (high low : ℕ) → length digits ≡ 2 * n → bytes_of (digits ++ high ∷ low ∷ []) ≡ bytes_of digits ++ (16 * high + low) ∷ []
bytes_of-push n [] high low long = refl
bytes_of-push n (x ∷ []) high low long = absurd (omega arith)
bytes_of-push n (x ∷ y ∷ digits) high low long = ap (λ (l : List ℕ). (16 * x + y) ∷ l) (bytes_of-push (n - 1) digits high low (omega arith))

two_more : (digits : List ℕ) (i : ℕ) → i + 1 < length digits → take (i + 1 + 1) digits ≡ take i digits ++ get_or digits i 0 ∷ get_or digits (i + 1) 0 ∷ []
two_more digits i low =
    take_more digits (i + 1) 0 low ∙ ap (λ (l : List ℕ). l ++ get_or digits (i + 1) 0 ∷ []) (take_more digits i 0 (omega arith))
    ∙ append_assoc (take i digits) (get_or digits i 0 ∷ []) (get_or digits (i + 1) 0 ∷ [])

pub bytes_of-more : (digits : List ℕ) (n : ℕ) → 2 * n + 1 < length digits → bytes_of (take (2 * (n + 1)) digits) ≡ bytes_of (take (2 * n) digits) ++ (16 * get_or digits (2 * n) 0 + get_or digits (2 * n + 1) 0) ∷ []
bytes_of-more digits n low =
    let same : 2 * (n + 1) ≡ 2 * n + 1 + 1 = omega arith in
    ap (λ (k : ℕ). bytes_of (take k digits)) same ∙ ap bytes_of (two_more digits (2 * n) low)
    ∙ bytes_of-push n (take (2 * n) digits) _ _ (omega (arith, length-take (2 * n) digits))

-- the digits of one more byte of a text
digits_of-more : (text : List ℕ) (i : ℕ) → i < length text → digits_of (take (i + 1) text) ≡ digits_of (take i text) ++ digits_of (get_or text i 0 ∷ [])
digits_of-more text i low =
    ap digits_of (take_more text i 0 low) ∙ ap (map digit_value) (filter-append (λ byte. not (is_ascii_whitespace byte)) (take i text) (get_or text i 0 ∷ []))
    ∙ map-append digit_value (filter (λ byte. not (is_ascii_whitespace byte)) (take i text)) (filter (λ byte. not (is_ascii_whitespace byte)) (get_or text i 0 ∷ []))

pub digits_of-space : (text : List ℕ) (i : ℕ) → i < length text → is_ascii_whitespace (get_or text i 0) ≡ true → digits_of (take (i + 1) text) ≡ digits_of (take i text)
digits_of-space text i low space =
    digits_of-more text i low ∙ ap (λ (b : Bool). digits_of (take i text) ++ map digit_value (if not b then get_or text i 0 ∷ [] else [])) space ∙ append-nil (digits_of (take i text))

pub digits_of-digit : (text : List ℕ) (i : ℕ) → i < length text → is_ascii_whitespace (get_or text i 0) ≡ false → digits_of (take (i + 1) text) ≡ digits_of (take i text) ++ digit_value (get_or text i 0) ∷ []
digits_of-digit text i low solid =
    digits_of-more text i low ∙ ap (λ (b : Bool). digits_of (take i text) ++ map digit_value (if not b then get_or text i 0 ∷ [] else [])) solid

-- whether they are digits
pub has_digits-more : (text : List ℕ) (i : ℕ) → i < length text → has_digits (take i text) ≡ true → (is_ascii_whitespace (get_or text i 0) || nat_lt (digit_value (get_or text i 0)) 16) ≡ true → has_digits (take (i + 1) text) ≡ true
has_digits-more text i low before here =
    list_all_more (λ byte. is_ascii_whitespace byte || nat_lt (digit_value byte) 16) text i 0 low ∙ (λ k. before k && here k)
