use Rattle.std.proofs.Common.{◌-◌, ◌≤◌, length}
use Rattle.bitrecord.specs.Records.{WritesFields}
use Rattle.bitrecord.proofs.encoding.encode_words.Given as goal

abbrev pub invariant-loop-number : goal.invariant-loop-number
invariant-loop-number g l = record {
  within : l.number ≤ length l.layout.fields.items;
  written : WritesFields l.endian g.O.WordOrder.HIGH l.layout.fields.items l.values l.number l.initial.out l.out;
}

abbrev pub decreases-loop-number : goal.decreases-loop-number
decreases-loop-number g l = length l.layout.fields.items - l.number
