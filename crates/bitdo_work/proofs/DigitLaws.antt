-- Printing a number's digits, from the top.
use Rattle.std.proofs.Common.{◌≡◌, ℕ, zero, suc, ◌+◌, ◌-◌, ◌*◌, ◌/◌, ◌%◌, ◌^◌, ◌<◌, List, [], ◌∷◌, ◌++◌, Option, refl, sym, ap, ◌∙◌, append-nil, append_assoc, arith}
use Rattle.std.specs.Io.KnownBytes.{Appends}
use Rattle.std.proofs.KnownBytes.{Appends-nil, Appends-trans}
use Rattle.std.proofs.Math.Nat.{pow-suc}
use Rattle.std.proofs.lemmas.Nat.{pow-add}
use Rattle.bitdo_work.specs.Texts.{digit_code, hexadecimal_text}

-- four bits are a digit
pub digit_power : (k : ℕ) → 2 ^ (4 * k) ≡ 16 ^ k
digit_power zero = refl
digit_power (suc k) =
    let more : 4 * suc k ≡ 4 * k + 4 = omega arith in
    ap (λ n. 2 ^ n) more ∙ pow-add 2 (4 * k) 4 ∙ ap (λ n. n * 16) (digit_power k) ∙ sym (pow-suc 16 k)

-- all but the lowest `place` of `count` digits were written
pub record HasDigits (before after : Option (List ℕ)) (count place number : ℕ) : Type 0 where
  pub written : List ℕ
  pub appends : Appends before after written
  pub rest : written ++ hexadecimal_text place number ≡ hexadecimal_text count number

pub HasDigits-none : (before : Option (List ℕ)) (count number : ℕ) → HasDigits before before count count number
HasDigits-none before count number = record { written = []; appends = Appends-nil before; rest = refl }

pub HasDigits-next : {before here after : Option (List ℕ)} {count number : ℕ} (place : ℕ) → 0 < place → HasDigits before here count place number
    → Appends here after (digit_code (number / 2 ^ (4 * (place - 1)) % 16) ∷ []) → HasDigits before after count (place - 1) number
unfolding hexadecimal_text
HasDigits-next zero some so_far one = absurd (omega arith)
HasDigits-next {before} {here} {after} {count} {number} (suc k) some so_far one =
    let down : suc k - 1 ≡ k = omega arith in
    let digit : digit_code (number / 2 ^ (4 * (suc k - 1)) % 16) ≡ digit_code (number / 16 ^ k % 16) =
    ap (λ n. digit_code (number / 2 ^ (4 * n) % 16)) down ∙ ap (λ n. digit_code (number / n % 16)) (digit_power k) in
    record {
      written = so_far.written ++ (digit_code (number / 2 ^ (4 * (suc k - 1)) % 16) ∷ []);
      appends = Appends-trans before here after _ _ so_far.appends one;
      rest = ap (λ n. so_far.written ++ (digit_code (number / 2 ^ (4 * (suc k - 1)) % 16) ∷ []) ++ hexadecimal_text n number) down
          ∙ append_assoc so_far.written _ _ ∙ ap (λ d. so_far.written ++ (d ∷ hexadecimal_text k number)) digit ∙ so_far.rest;
    }

pub Appends-digits : {before after : Option (List ℕ)} {count number : ℕ} (place : ℕ) → place ≡ 0 → HasDigits before after count place number → Appends before after (hexadecimal_text count number)
unfolding hexadecimal_text
Appends-digits {before} {after} {count} {number} place none all =
    let whole : all.written ≡ hexadecimal_text count number = sym (append-nil all.written) ∙ ap (λ n. all.written ++ hexadecimal_text n number) (sym none) ∙ all.rest in
    rw (← whole) all.appends
