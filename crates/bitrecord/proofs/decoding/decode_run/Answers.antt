use Rattle.std.specs.Prelude.{◌≡◌, ℕ, ◌<◌}
use Rattle.std.proofs.Common.{arith, refl, ap, ◌∙◌, ⊎_elim}
use Rattle.std.proofs.lemmas.List.{get_or-set_other, get_or-set_same}
use Rattle.bitrecord.specs.Runs.{across, aligned}
use Rattle.bitrecord.specs.RecordLaws.{earlier_or_this}
use Rattle.bitrecord.proofs.Exponents.{fits-word}
use Rattle.bitrecord.proofs.Numbers.{run-number, run-split}
use Rattle.bitrecord.proofs.RunLaws.{run-narrow}
use Rattle.bitrecord.proofs.decoding.decode_run.Goals as goal

pub overflow_cast-number : goal.overflow_cast-number
overflow_cast-number g c =
    let layout = c.args.layout.now in
    let bound = c.requires.run.bound c.requires.several in
    let told = run-number g.O.WordOrder.HIGH c.args.view c.args.endian layout.bits c.args.first c.args.last c.take-number.result layout.fields.items c.field-start.result c.field-end.result c.requires.seamless layout.layout c.requires.bits c.requires.run
    c.field-start.ensures c.field-end.ensures c.take-number.ensures in
    record { fits = fits-word c.take-number.result (across layout.fields.items c.args.first c.args.last).len told.1 (omega arith) }

pub to_split-word-requires-clause-fits : goal.to_split-word-requires-clause-fits
to_split-word-requires-clause-fits g c =
    let layout = c.args.layout.now in
    let told = run-number g.O.WordOrder.HIGH c.args.view c.args.endian layout.bits c.args.first c.args.last c.take-number.result layout.fields.items c.field-start.result c.field-end.result c.requires.seamless layout.layout c.requires.bits c.requires.run
    c.field-start.ensures c.field-end.ensures c.take-number.ensures in
    rw (c.field-start.ensures, c.field-end.ensures) told.1

pub loop-field-init : goal.loop-field-init
loop-field-init g c =
    let layout = c.args.layout.now in
    let told = run-number g.O.WordOrder.HIGH c.args.view c.args.endian layout.bits c.args.first c.args.last c.take-number.result layout.fields.items c.field-start.result c.field-end.result c.requires.seamless layout.layout c.requires.bits c.requires.run
    c.field-start.ensures c.field-end.ensures c.take-number.ensures in
    record {
      word = λ _. rw (c.field-start.ensures, c.field-end.ensures) at c.to_split-word.ensures ∙ ap (λ (n : ℕ). aligned g.O.WordOrder.HIGH n (across layout.fields.items c.args.first c.args.last).len) told.0;
      done = λ k from low. absurd (omega arith);
      kept = λ k low. refl;
    }

pub split_off-number-requires : goal.split_off-number-requires
split_off-number-requires g c =
    let from = c.loop-field.auto.field in
    let test = c.loop-field-test.true in
    rw c.field.ensures (run-narrow c.args.layout.now.fields.items c.args.first c.args.last c.loop-field.field c.args.layout.now.layout.widths c.requires.run c.requires.several (omega arith) (omega arith))

pub loop-field-preserved : goal.loop-field-preserved
loop-field-preserved g c =
    let layout = c.args.layout.now in
    let n : ℕ = c.loop-field.field in
    let inv = c.loop-field.invariant in
    let from = c.loop-field.auto.field in
    let test = c.loop-field-test.true in
    let places = c.loop-field.auto.out ∙ c.requires.lengths in
    let below = c.requires.run.below in
    let told = run-split g.O.WordOrder.HIGH c.args.view c.args.endian layout.bits c.args.first c.args.last n c.loop-field.word c.split_off-number.result.0 c.split_off-number.result.1 layout.fields.items c.requires.seamless layout.layout c.requires.bits c.requires.run
    c.requires.several (omega arith) (omega arith) (inv.word (omega arith)) (rw c.field.ensures at c.split_off-number.ensures) in
    record {
      word = told.1;
      done = λ k least low. ⊎_elim (λ (earlier : k < n). get_or-set_other c.loop-field.out n k c.from.result 0 (λ same. absurd (omega arith)) ∙ inv.done k least earlier)
          (λ (this : k ≡ n). rw this (get_or-set_same c.loop-field.out n c.from.result 0 (omega arith) ∙ c.from.ensures ∙ told.0)) (earlier_or_this k n low);
      kept = λ k low. get_or-set_other c.loop-field.out n k c.from.result 0 (λ same. absurd (omega arith)) ∙ inv.kept k low;
    }

pub returns : goal.returns
returns g c =
    let test = c.loop-field-test.false in
    record { done = λ k from low. c.loop-field.invariant.done k from (omega arith); kept = c.loop-field.invariant.kept }
