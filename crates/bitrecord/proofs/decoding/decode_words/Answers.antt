use Rattle.std.specs.Prelude.{◌<◌, ◌≤◌}
use Rattle.std.proofs.Common.{arith, ◌∙◌, ⊎_elim}
use Rattle.std.proofs.lemmas.Bool.{cases_lt}
use Rattle.bitrecord.proofs.Numbers.{read-all, read-next}
use Rattle.bitrecord.proofs.decoding.decode_words.Goals.{else-last-number, then-last-number}
use Rattle.bitrecord.proofs.decoding.decode_words.Goals as goal

pub loop-number-preserved : goal.loop-number-preserved
loop-number-preserved g c =
    let run = c.last_in_run-last.ensures in
    let inv = c.loop-number.invariant in
    let below = run.below in
    let order = run.order in
    let long = c.loop-number.auto.out in
    let places = c.requires.lengths in
    record {
      within = omega arith;
      numbers = elim c.if-last-number.branch [
        | then-last-number w ↦
            let alone = w.if-last-number.true in
            rw w.out-is (λ k low. read-next _ c.loop-number.out c.loop-number.number w.take_alone.result (omega arith) (rw w.field.ensures at w.take_alone.ensures) inv.numbers k (omega arith))
        | else-last-number w ↦
            rw w.out-is (λ k low. ⊎_elim (λ (earlier : k < c.loop-number.number). w.decode_run.ensures.kept k earlier ∙ inv.numbers k earlier)
            (λ (from : c.loop-number.number ≤ k). w.decode_run.ensures.done k from (omega arith)) (cases_lt k c.loop-number.number))
      ];
    }

pub returns : goal.returns
returns g c =
    let number = c.loop-number-test.false in
    let len = c.len.ensures in
    read-all _ _ _ _ _ _ c.loop-number.out (c.loop-number.auto.out ∙ c.requires.lengths) (λ k low. c.loop-number.invariant.numbers k (omega arith))
