use Rattle.std.proofs.Common.{◌≡◌, ℕ, ◌-◌, Bool, List, ◌∙◌, ap, arith, sym}
use Rattle.bitvec_numbers.specs.Integers.{integer_of}
use Rattle.bitvec_segments.specs.Segments.{segment_number}
use Rattle.bitvec_slice.specs.Views.{seen}
use Rattle.bitvec_in_place.specs.Cursors.{left_of, reading}
use Rattle.bitvec_in_place.proofs.Cursors.{next_bits, no_integer, none_taken}
use Rattle.bitvec_in_place.proofs.reader.BitReader.peek_by.Goals as goal

pub returns-then-width-eq0-clause-value : goal.returns-then-width-eq0-clause-value
returns-then-width-eq0-clause-value g c =
    let s = g.I.Integral.SIGNED in
    let w = c.args.width in
    let none : w ≡ 0 = c.if-width-eq0.true in
    c.from_bits.ensures ∙ no_integer s
    ∙ ap (λ (n : ℕ). integer_of s n 0) (sym none)
    ∙ ap (integer_of s w) (sym (none_taken g.P.WordOrder.HIGH (left_of (reading c.args.self.now)) w none))

pub returns-clause-value : goal.returns-clause-value
returns-clause-value g c =
    let s = g.I.Integral.SIGNED in
    let high = g.P.WordOrder.HIGH in
    let w = c.args.width in
    let cursor = reading c.args.self.now in
    let size : w - 0 ≡ w = omega arith in
    c.number_by.ensures
    ∙ ap (λ (n : ℕ). integer_of s n (segment_number high (seen c.into_part-next.result).bits)) (c.into_part-next.ensures.len ∙ size)
    ∙ ap (λ (l : List Bool). integer_of s w (segment_number high l)) (c.into_part-next.ensures.bits ∙ next_bits cursor.bits (seen c.rest.result).bits cursor.position w c.rest.ensures.bits)
