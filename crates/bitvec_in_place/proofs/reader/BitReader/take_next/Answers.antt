use Rattle.std.specs.Prelude.{pos}
use Rattle.std.proofs.Common.{◌≡◌, ℕ, ◌+◌, ◌-◌, Bool, false, List, ◌∙◌, ap, arith, sym}
use Rattle.bitvec_numbers.specs.Integers.{integer_of}
use Rattle.bitvec_segments.specs.Segments.{segment_number}
use Rattle.bitvec_slice.specs.Views.{seen}
use Rattle.bitvec_in_place.specs.Cursors.{reading}
use Rattle.bitvec_in_place.specs.Ranges.{number_in}
use Rattle.bitvec_in_place.proofs.Cursors.{no_number, range-number}
use Rattle.bitvec_in_place.proofs.reader.BitReader.take_next.Goals as goal

pub returns-then-width-eq0-clause-number : goal.returns-then-width-eq0-clause-number
returns-then-width-eq0-clause-number g c =
    let p = (reading c.args.self.now).position in
    sym (no_number g.O.WordOrder.HIGH g.T.BitStore.BITS (reading c.args.self.now).bits p (p + c.args.width) (omega arith))

pub returns-clause-number : goal.returns-clause-number
returns-clause-number g c =
    let high = g.O.WordOrder.HIGH in
    let w = c.args.width in
    let p = (reading c.args.self.now).position in
    let size : p + w - p ≡ w = omega arith in
    let number : pos c.plain_number.result ≡ pos (number_in high high g.T.BitStore.BITS (reading c.args.self.now).bits p (p + w)) =
    c.plain_number.ensures
    ∙ ap (λ (n : ℕ). integer_of false n (segment_number high (seen c.into_part.result).bits)) (c.into_part.ensures.len ∙ size)
    ∙ ap (λ (l : List Bool). integer_of false w (segment_number high l)) c.into_part.ensures.bits
    ∙ ap (integer_of false w) (sym (range-number high g.T.BitStore.BITS (reading c.args.self.now).bits p (p + w))) in
    cc
