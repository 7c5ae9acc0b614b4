use Rattle.std.proofs.Common.{◌≡◌, take, true}
use Rattle.bitvec_segments.specs.Segments.{segment_number}
use Rattle.bitvec_slice.specs.Views.{seen}
use Rattle.bitvec_field.proofs.digits.number_of.Given as goal

abbrev pub invariant-loop-index : goal.invariant-loop-index
invariant-loop-index g l = l.number ≡ segment_number true (take l.index (seen l.group).bits)
