use Rattle.std.proofs.Common.{◌≡◌, ◌+◌, length, take}
use Rattle.bitvec_in_place.specs.Cursors.{elements_of, lender_of, limit_of, writing}
use Rattle.bitvec_in_place.specs.Ranges.{ChangesOnly}
use Rattle.bitvec_in_place.specs.Rows.{HasRow, row_len}
use Rattle.bitvec_in_place.proofs.writer.BitWriter.put_row.Given as goal

abbrev pub invariant-loop-field : goal.invariant-loop-field
invariant-loop-field g l = record {
  row : HasRow g.O.WordOrder.HIGH g.T.BitStore.BITS (writing l.self).bits (writing l.initial.self).position (take l.field-index l.row);
  outside : ChangesOnly (writing l.initial.self).position (writing l.self).position (writing l.initial.self).bits (writing l.self).bits;
  position : (writing l.self).position ≡ (writing l.initial.self).position + row_len (take l.field-index l.row);
  len : length (elements_of l.self) ≡ length (elements_of l.initial.self);
  name : lender_of l.self ≡ lender_of l.initial.self;
  limit : limit_of l.self ≡ limit_of l.initial.self;
}
