use Rattle.std.proofs.Common.{arith, refl}
use Rattle.bitvec.specs.WritesLaws.{written-none}
use Rattle.bitrecord.proofs.Puts.{next-field}
use Rattle.bitrecord.proofs.encoding.encode_fields.Goals as goal

pub loop-number-init : goal.loop-number-init
loop-number-init g c = record { numbers = λ k low. absurd (omega arith); others = λ place d outside. refl; written = written-none c.args.out.now }

pub loop-number-preserved : goal.loop-number-preserved
loop-number-preserved g c =
    next-field g.O.WordOrder.HIGH c.args.out.now c.loop-number.out c.put.new.out c.args.endian _ _ _ c.loop-number.number c.args.layout.now.layout c.requires.bits (omega arith)
    c.loop-number.invariant (rw c.field.ensures at c.put.ensures)
