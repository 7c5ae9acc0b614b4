use Rattle.std.proofs.Common.{◌-◌, ◌≤◌}
use Rattle.std.specs.Fmt.{IsPlainFormatter}
use Rattle.std.specs.List.{join_by}
use Rattle.bitvec_segments.specs.Segments.{segments}
use Rattle.bitvec_slice.specs.Views.{seen}
use Rattle.bitvec_field.specs.Radix.{digits_text}
use Rattle.bitvec_field.proofs.SegmentsFrom.{joined_from, segments_from}
use Rattle.bitvec_field.proofs.Written.{WrittenBut}
use Rattle.bitvec_domain.specs.Listing.{comma}
use Rattle.bitvec_field.proofs.segments.write_segments.Given as goal

abbrev pub invariant-loop-from : goal.invariant-loop-from
invariant-loop-from g l =
    let view = seen l.bits in
    let text = digits_text l.width l.upper in
    (l.from ≤ l.len)
    × (IsPlainFormatter l.initial.f
    → WrittenBut g.W.Write.write_str_gives l.initial.f l.f (joined_from text l.from (segments_from g.T.BitStore.BITS view.window.start view.bits l.from)) (join_by text comma (segments g.T.BitStore.BITS view.window.start view.bits)))

abbrev pub decreases-loop-from : goal.decreases-loop-from
decreases-loop-from g l = l.len - l.from
