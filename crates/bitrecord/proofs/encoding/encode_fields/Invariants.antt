use Rattle.bitrecord.specs.Records.{WritesFields}
use Rattle.bitrecord.proofs.encoding.encode_fields.Given as goal

abbrev pub invariant-loop-number : goal.invariant-loop-number
invariant-loop-number g l = WritesFields l.endian g.O.WordOrder.HIGH l.layout.fields.items l.values l.number l.initial.out l.out
