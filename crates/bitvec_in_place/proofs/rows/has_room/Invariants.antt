use Rattle.std.proofs.Common.{◌≡◌, ◌+◌, take}
use Rattle.bitvec_in_place.specs.Rows.{row_len}
use Rattle.bitvec_in_place.proofs.rows.has_room.Given as goal

abbrev pub invariant-loop-field : goal.invariant-loop-field
invariant-loop-field l = l.left + row_len (take l.field-index l.row) ≡ l.bits
