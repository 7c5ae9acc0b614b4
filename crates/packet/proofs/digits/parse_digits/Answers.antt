use Rattle.std.proofs.Common.{◌≡◌, ℕ, ◌<◌, ◌||◌, nat_lt, List, [], ◌∷◌, ◌++◌, get_or, true, false, inr, refl, sym, subst, ◌∙◌, arith}
use Rattle.std.specs.Char.{digit_value, is_ascii_whitespace}
use Rattle.std.specs.Prelude.{All}
use Rattle.std.proofs.lemmas.Bool.{le-ltb, lt-ltb}
use Rattle.std.proofs.lemmas.List.{take_all}
use Rattle.std.proofs.lemmas.List.Elements.{All-push}
use Rattle.std.proofs.lemmas.List.Folds.{list_all_at}
use Rattle.packet.proofs.DigitLaws.{digits_of-digit, digits_of-space, has_digits-more}
use Rattle.packet.proofs.digits.parse_digits.Goals as goal

pub loop-byte-preserved-then-is_ascii_whitespace : goal.loop-byte-preserved-then-is_ascii_whitespace
loop-byte-preserved-then-is_ascii_whitespace g c =
    let text : List ℕ = c.args.text.now in
    let i : ℕ = c.loop-byte.byte-index in
    let low = c.loop-byte-test.true in
    let space : is_ascii_whitespace (get_or text i 0) ≡ true = sym c.if-is_ascii_whitespace.ensures.value in record {
      all = has_digits-more text i low c.loop-byte.invariant.all (λ k. space k || nat_lt (digit_value (get_or text i 0)) 16);
      digits_are = c.loop-byte.invariant.digits_are ∙ sym (digits_of-space text i low space);
      below = c.loop-byte.invariant.below;
    }

pub loop-byte-preserved : goal.loop-byte-preserved
loop-byte-preserved g c =
    let text : List ℕ = c.args.text.now in
    let i : ℕ = c.loop-byte.byte-index in
    let low = c.loop-byte-test.true in
    let solid : is_ascii_whitespace (get_or text i 0) ≡ false = sym c.if-is_ascii_whitespace.ensures.value in
    let some = c.in-Some.ensures.value in
    let few : nat_lt (digit_value (get_or text i 0)) 16 ≡ true = lt-ltb _ _ some.0 in
    let items : c.push.new.self.items ≡ c.loop-byte.digits.items ++ digit_value (get_or text i 0) ∷ [] = c.in_ok-push-in-Some.ensures.items ∙ (λ k. c.loop-byte.digits.items ++ some.1 k ∷ []) in record {
      all = has_digits-more text i low c.loop-byte.invariant.all ((λ k. solid k || nat_lt (digit_value (get_or text i 0)) 16) ∙ few);
      digits_are = items ∙ (λ k. c.loop-byte.invariant.digits_are k ++ digit_value (get_or text i 0) ∷ []) ∙ sym (digits_of-digit text i low solid);
      below = subst (All (λ digit. digit < 16)) (sym items) (All-push (λ digit. digit < 16) c.loop-byte.digits.items (digit_value (get_or text i 0)) c.loop-byte.invariant.below some.0);
    }

pub returns-in-None-clause-fault : goal.returns-in-None-clause-fault
returns-in-None-clause-fault g c =
    let text : List ℕ = c.args.text.now in
    let i : ℕ = c.loop-byte.byte-index in
    let solid : is_ascii_whitespace (get_or text i 0) ≡ false = sym c.if-is_ascii_whitespace.ensures.value in
    let none = c.in-None.ensures.value in
    let many : nat_lt (digit_value (get_or text i 0)) 16 ≡ false = le-ltb _ _ (omega (arith, none)) in
    inr (refl, list_all_at (λ byte. is_ascii_whitespace byte || nat_lt (digit_value byte) 16) text i 0 c.loop-byte-test.true ((λ k. solid k || nat_lt (digit_value (get_or text i 0)) 16) ∙ many))

pub returns-clause-digits : goal.returns-clause-digits
returns-clause-digits g c = rw (take_all c.loop-byte.byte-index c.args.text.now (omega arith)) at c.loop-byte.invariant
