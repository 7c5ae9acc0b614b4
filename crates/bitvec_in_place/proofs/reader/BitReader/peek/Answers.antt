use Rattle.std.proofs.Common.{◌≡◌, ℕ, ◌+◌, ◌-◌, Bool, List, ◌∙◌, ap, arith, sym}
use Rattle.bitvec_numbers.specs.Integers.{integer_of}
use Rattle.bitvec_segments.specs.Segments.{segment_number}
use Rattle.bitvec_slice.specs.Views.{seen}
use Rattle.bitvec_in_place.specs.Cursors.{reading}
use Rattle.bitvec_in_place.proofs.Cursors.{no_integer, no_number, range-number}
use Rattle.bitvec_in_place.proofs.reader.BitReader.peek.Goals as goal

pub returns-then-width-eq0-clause-value : goal.returns-then-width-eq0-clause-value
returns-then-width-eq0-clause-value g c =
    let s = g.I.Integral.SIGNED in
    let w = c.args.width in
    let p = (reading c.args.self.now).position in
    let none : w ≡ 0 = c.if-width-eq0.true in
    c.from_bits.ensures ∙ no_integer s
    ∙ ap (λ (n : ℕ). integer_of s n 0) (sym none)
    ∙ ap (integer_of s w) (sym (no_number g.O.WordOrder.HIGH g.T.BitStore.BITS (reading c.args.self.now).bits p (p + w) (omega arith)))

pub returns-clause-value : goal.returns-clause-value
returns-clause-value g c =
    let s = g.I.Integral.SIGNED in
    let high = g.O.WordOrder.HIGH in
    let w = c.args.width in
    let p = (reading c.args.self.now).position in
    let size : p + w - p ≡ w = omega arith in
    c.plain_number.ensures
    ∙ ap (λ (n : ℕ). integer_of s n (segment_number high (seen c.into_part.result).bits)) (c.into_part.ensures.len ∙ size)
    ∙ ap (λ (l : List Bool). integer_of s w (segment_number high l)) c.into_part.ensures.bits
    ∙ ap (integer_of s w) (sym (range-number high g.T.BitStore.BITS (reading c.args.self.now).bits p (p + w)))
