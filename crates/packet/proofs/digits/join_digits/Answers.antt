use Rattle.std.proofs.Common.{ℕ, ◌+◌, ◌*◌, List, [], ◌∷◌, ◌++◌, get_or, ap, sym, ◌∙◌, arith}
use Rattle.std.proofs.lemmas.Grind.{common_steps}
use Rattle.std.proofs.lemmas.List.{take_all}
use Rattle.packet.specs.Digits.{bytes_of}
use Rattle.packet.proofs.DigitLaws.{bytes_of-more}
use Rattle.packet.proofs.digits.join_digits.Goals as goal

pub loop-number-preserved : goal.loop-number-preserved
loop-number-preserved g c =
    let digits : List ℕ = c.args.digits.now in
    let n : ℕ = c.loop-number.number in (
      c.in_ok-push.ensures.items ∙ ap (λ (l : List ℕ). l ++ (16 * get_or digits (2 * n) 0 + get_or digits (2 * n + 1) 0) ∷ []) c.loop-number.invariant.0
          ∙ sym (bytes_of-more digits n (omega arith)),
      grind (arith, common_steps),
    )

pub returns-clause-bytes : goal.returns-clause-bytes
returns-clause-bytes g c = c.loop-number.invariant.0 ∙ ap bytes_of (take_all (2 * c.loop-number.number) c.args.digits.now (omega arith))
