use Rattle.std.proofs.Common.{◌≡◌, ◌+◌, ◌-◌, ◌*◌, ◌∙◌, ℕ, ap, arith, length, rules, slice_range, true}
use Rattle.std.specs.Fmt.{HasWritten, digits}
use Rattle.std.proofs.Output.{has_written_of_eq}
use Rattle.bitvec_segments.specs.Segments.{segment_number}
use Rattle.std.specs.List.{flat_map}
use Rattle.bitvec_slice.specs.Views.{seen}
use Rattle.bitvec_field.specs.Radix.{digit_text, digits_text}
use Rattle.bitvec_field.proofs.SegmentsFrom.{segments_from-end, segments_from-next, segments_from-start}
use Rattle.bitvec_field.proofs.Written.{written-all, written-next, written-none}
use Rattle.bitvec_field.proofs.digits.write_digits.Goals as goal

pub loop-from-init : goal.loop-from-init
unfolding digits_text
loop-from-init g c =
    let bits = (seen c.args.segment).bits in
    let text = flat_map (digit_text c.args.upper) in
    (omega arith, λ plain. written-none _ _ _ _ (ap text (segments_from-start c.args.width ((c.args.width - 1) * length bits) bits)) plain)

pub loop-from-preserved : goal.loop-from-preserved
loop-from-preserved g c =
    let bits = (seen c.args.segment).bits in
    let text = flat_map (digit_text c.args.upper) in
    let long = c.len-len.ensures.value in
    let cut = segments_from-next c.args.width ((c.args.width - 1) * length bits) bits c.loop-from.from c.bits_in_element.result c.requires.some (omega arith) (rw long at c.bits_in_element.ensures) in
    let group = slice_range bits c.loop-from.from (c.loop-from.from + c.bits_in_element.result) in
    let digit : digits 16 c.args.upper c.number_of.result ≡ digit_text c.args.upper group =
    ap (λ (n : ℕ). digits 16 c.args.upper n) (c.number_of.ensures ∙ ap (segment_number true) c.into_part.ensures.bits) in (
      omega arith,
      λ plain.
          let so_far = c.loop-from.invariant.1 plain in
          let wrote : HasWritten g.W.Write.write_str_gives c.loop-from.f (digits 16 c.args.upper c.number_of.result) c.write_digit.new.f = search rules in
          written-next _ _ _ _ _ _ _ _ so_far (ap text cut) (has_written_of_eq _ _ _ _ _ digit wrote),
    )

pub returns : goal.returns
returns g c = λ plain _.
    let bits = (seen c.args.segment).bits in
    let text = flat_map (digit_text c.args.upper) in
    written-all _ _ _ _ _ (c.loop-from.invariant.1 plain) (ap text (segments_from-end c.args.width ((c.args.width - 1) * length bits) bits c.loop-from.from (omega arith)))
