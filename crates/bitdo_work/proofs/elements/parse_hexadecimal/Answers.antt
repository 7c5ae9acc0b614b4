use Rattle.std.proofs.Common.{◌≡◌, ◌^◌, ◌<◌, IfSome, sym, subst, ◌∙◌, arith}
use Rattle.std.proofs.lemmas.Bool.Decides.{nat_tests}
use Rattle.bitdo_work.specs.Elements.{hexadecimal_of}
use Rattle.bitdo_work.proofs.ElementLaws.{hexadecimal_of-parse, hexadecimal_of-bound, hexadecimal_of-other}
use Rattle.bitdo_work.proofs.elements.parse_hexadecimal.Goals as goal
use Rattle.bitdo_work.proofs.elements.parse_hexadecimal.Goals.{else-word-digits-via-then-word-digits+else-is_hexadecimal, else-word-digits-via-else-word-digits}

pub returns-then-is_hexadecimal : goal.returns-then-is_hexadecimal
returns-then-is_hexadecimal c =
    let e : c.ok.result ≡ hexadecimal_of c.args.digits c.args.word.now =
    c.ok.ensures.value ∙ hexadecimal_of-parse c.args.word.now c.args.digits c.from_str_radix.result c.from_str_radix.ensures.value c.if-word-digits.true
    (sym c.if-is_hexadecimal.ensures) c.requires.some c.requires.bound in
    record {
      number = e;
      bound = subst (λ o. IfSome o (λ number. number < 16 ^ c.args.digits)) (sym e) (hexadecimal_of-bound c.args.word.now c.args.digits);
    }

pub returns-else-word-digits-clause-number : goal.returns-else-word-digits-clause-number
returns-else-word-digits-clause-number c = elim c.else-word-digits.branch [
  | else-word-digits-via-then-word-digits+else-is_hexadecimal w ↦ sym (hexadecimal_of-other c.args.word.now c.args.digits (grind (arith, nat_tests)))
  | else-word-digits-via-else-word-digits w ↦ sym (hexadecimal_of-other c.args.word.now c.args.digits (grind (arith, nat_tests)))
]
