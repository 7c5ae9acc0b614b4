use Rattle.std.proofs.Common.{◌≡◌, ◌∙◌, ◌+◌, ℕ, ap, arith, rules, slice_range}
use Rattle.std.specs.Fmt.{HasWritten}
use Rattle.std.proofs.Output.{has_written_append, has_written_of_eq}
use Rattle.bitvec_store.specs.WidthLaws.{width_some}
use Rattle.bitvec_domain.specs.Listing.{separator}
use Rattle.bitvec_slice.specs.Views.{seen}
use Rattle.bitvec_field.specs.Radix.{digits_text}
use Rattle.bitvec_field.proofs.SegmentsFrom.{joined_from, joined_from-end, joined_from-next, joined_from-start, segments_from-end, segments_from-later, segments_from-next, segments_from-start}
use Rattle.bitvec_field.proofs.Written.{written-all, written-next, written-none}
use Rattle.bitvec_field.proofs.segments.write_segments.Goals as goal

pub loop-from-init : goal.loop-from-init
loop-from-init g c =
    let view = seen c.args.bits in
    let text = digits_text c.args.width c.args.upper in
    (omega arith, λ plain. written-none _ _ _ _ (ap (joined_from text 0) (segments_from-start g.T.BitStore.BITS view.window.start view.bits) ∙ joined_from-start text _) plain)

pub loop-from-preserved : goal.loop-from-preserved
loop-from-preserved g c =
    let view = seen c.args.bits in
    let text = digits_text c.args.width c.args.upper in
    let long = c.len-len.ensures.value in
    let some = width_some _ g.met.T.BitStore.width_law in
    let is = rw (long, c.BITS.ensures, c.window-start.ensures.value) at c.bits_in_element.ensures in
    let cut = segments_from-next g.T.BitStore.BITS view.window.start view.bits c.loop-from.from c.bits_in_element.result some (omega arith) is in
    let later = segments_from-later g.T.BitStore.BITS view.window.start view.bits c.loop-from.from c.bits_in_element.result some (omega arith) is in
    let to : ℕ = c.loop-from.from + c.bits_in_element.result in
    let segment = slice_range view.bits c.loop-from.from to in
    let digits : digits_text c.args.width c.args.upper (seen c.into_part.result).bits ≡ text segment = ap text c.into_part.ensures.bits in
    let next = ap (joined_from text c.loop-from.from) cut ∙ joined_from-next text c.loop-from.from to segment _ later in (
      omega arith,
      λ plain.
          let so_far = c.loop-from.invariant.1 plain in
          let lead : HasWritten g.W.Write.write_str_gives c.loop-from.f (separator c.loop-from.from) c.write_str.new.self = search rules in
          let wrote : HasWritten g.W.Write.write_str_gives c.write_str.new.self (digits_text c.args.width c.args.upper (seen c.into_part.result).bits) c.write_digits.new.f = search rules in
          written-next _ _ _ _ _ _ _ _ so_far next (has_written_append _ _ _ _ _ _ lead (has_written_of_eq _ _ _ _ _ digits wrote)),
    )

pub returns : goal.returns
returns g c = λ plain _.
    let view = seen c.args.bits in
    let text = digits_text c.args.width c.args.upper in
    written-all _ _ _ _ _ (c.loop-from.invariant.1 plain) (ap (joined_from text c.loop-from.from) (segments_from-end g.T.BitStore.BITS view.window.start view.bits c.loop-from.from (omega arith)) ∙ joined_from-end text c.loop-from.from)
