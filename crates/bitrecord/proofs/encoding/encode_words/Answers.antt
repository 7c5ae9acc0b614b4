use Rattle.std.proofs.Common.{arith, refl}
use Rattle.bitvec.specs.WritesLaws.{written-none}
use Rattle.bitrecord.proofs.Puts.{next-field, next-run}
use Rattle.bitrecord.proofs.encoding.encode_words.Goals.{else-last-number, then-last-number}
use Rattle.bitrecord.proofs.encoding.encode_words.Goals as goal

pub loop-number-init : goal.loop-number-init
loop-number-init g c = record {
  within = omega arith;
  written = record { numbers = λ k low. absurd (omega arith); others = λ place d outside. refl; written = written-none c.args.out.now };
}

pub loop-number-preserved : goal.loop-number-preserved
loop-number-preserved g c =
    let run = c.last_in_run-last.ensures in
    let inv = c.loop-number.invariant in
    let below = run.below in
    let order = run.order in
    record {
      within = omega arith;
      written = elim c.if-last-number.branch [
        | then-last-number w ↦
            rw (w.out-is, w.if-last-number.true) (next-field g.O.WordOrder.HIGH c.args.out.now c.loop-number.out w.put_alone.new.out c.args.endian _ _ _ c.loop-number.number c.args.layout.now.layout c.requires.bits (omega arith)
            inv.written (rw w.field.ensures at w.put_alone.ensures))
        | else-last-number w ↦
            rw w.out-is (next-run g.O.WordOrder.HIGH c.args.out.now c.loop-number.out w.encode_run.new.out c.args.endian _ _ _ c.loop-number.number _ c.args.layout.now.layout c.requires.bits run
            inv.written w.encode_run.ensures)
      ];
    }
