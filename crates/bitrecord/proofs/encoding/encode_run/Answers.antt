use Rattle.std.specs.Prelude.{◌≡◌, ℕ, ◌+◌, ◌<◌}
use Rattle.std.proofs.Common.{arith, refl, ⊎_elim}
use Rattle.bitrecord.specs.Layouts.{field_at}
use Rattle.bitrecord.specs.RecordLaws.{earlier_or_this}
use Rattle.bitrecord.proofs.Digits.{joined-below, parts-told}
use Rattle.bitrecord.proofs.Puts.{run-written}
use Rattle.bitrecord.proofs.encoding.encode_run.Goals as goal

pub loop-number-preserved : goal.loop-number-preserved
loop-number-preserved g c =
    let inv = c.loop-number.invariant in
    let run = c.requires.run in
    let n : ℕ = c.loop-number.number in
    let fields = c.args.layout.now.fields.items in
    let from = c.loop-number.auto.number in
    let test = c.loop-number-test.true in
    let place = inv.place (omega arith) in
    let behind = run.behind n (omega arith) (omega arith) in
    let fit = c.requires.values.fit n (omega arith) in
    let whole = rw c.field-more.ensures at c.with_next-word.ensures in
    rw c.field-more.ensures (record {
      fits = joined-below g.O.WordOrder.HIGH _ _ _ _ _ whole inv.fits fit;
      place = λ more. let next = run.next n (omega arith) (omega arith) in omega arith;
      whole = λ over. let this : c.args.last ≡ n = omega arith in rw this (omega arith);
      numbers = λ list long is k least low.
          let told = parts-told g.O.WordOrder.HIGH list (record { start = (field_at fields c.args.first).start; len = c.loop-number.len }) (field_at fields n) (record { start = (field_at fields c.args.first).start; len = c.loop-number.len + (field_at fields n).len })
          _ _ _ (record { start = omega arith; len = omega arith }) refl place refl whole inv.fits fit is in
          ⊎_elim (λ (earlier : k < n). inv.numbers list (omega arith) told.0 k least earlier) (λ (this : k ≡ n). rw this told.1) (earlier_or_this k n low);
    })

pub returns : goal.returns
returns g c =
    let inv = c.loop-number.invariant in
    let test = c.loop-number-test.false in
    run-written g.O.WordOrder.HIGH c.args.out.now c.put_word.new.out c.args.endian _ c.args.layout.now.fields.items c.args.values.now c.args.first c.args.last c.loop-number.word
    (record { start = (field_at c.args.layout.now.fields.items c.args.first).start; len = c.loop-number.len }) c.requires.seamless c.args.layout.now.layout c.requires.bits c.requires.run refl (inv.whole (omega arith))
    (λ list long is k from low. inv.numbers list long is k from (omega arith)) (rw c.field-start.ensures at c.put_word.ensures)
