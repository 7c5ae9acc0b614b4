use Rattle.std.proofs.Common.{◌-◌, ◌*◌, ◌≤◌, length}
use Rattle.std.specs.Fmt.{IsPlainFormatter}
use Rattle.std.specs.List.{flat_map}
use Rattle.bitvec_slice.specs.Views.{seen}
use Rattle.bitvec_field.specs.Radix.{digit_text, digits_text}
use Rattle.bitvec_field.proofs.SegmentsFrom.{segments_from}
use Rattle.bitvec_field.proofs.Written.{WrittenBut}
use Rattle.bitvec_field.proofs.digits.write_digits.Given as goal

abbrev pub invariant-loop-from : goal.invariant-loop-from
invariant-loop-from g l =
    let bits = (seen l.segment).bits in
    (l.from ≤ l.len)
    × (IsPlainFormatter l.initial.f
    → WrittenBut g.W.Write.write_str_gives l.initial.f l.f (flat_map (digit_text l.upper) (segments_from l.width ((l.width - 1) * length bits) bits l.from)) (digits_text l.width l.upper bits))

abbrev pub decreases-loop-from : goal.decreases-loop-from
decreases-loop-from g l = l.len - l.from
