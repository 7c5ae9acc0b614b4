use Rattle.std.proofs.Common.{◌≡◌, ◌+◌, ◌++◌, drop, take}
use Rattle.bitvec_in_place.specs.Cursors.{KeepsBits, reading}
use Rattle.bitvec_in_place.specs.Rows.{row_in, row_len}
use Rattle.bitvec_in_place.proofs.reader.BitReader.take_row.Given as goal

abbrev pub invariant-loop-field : goal.invariant-loop-field
invariant-loop-field g l = record {
  row : l.row ≡ row_in g.O.WordOrder.HIGH g.T.BitStore.BITS (reading l.initial.self).bits (reading l.initial.self).position (take l.field-index l.initial.row) ++ drop l.field-index l.initial.row;
  keeps : KeepsBits l.initial.self l.self;
  position : (reading l.self).position ≡ (reading l.initial.self).position + row_len (take l.field-index l.initial.row);
}
