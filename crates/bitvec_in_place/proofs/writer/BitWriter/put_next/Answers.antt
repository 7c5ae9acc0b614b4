use Rattle.std.specs.Prelude.{pos}
use Rattle.std.proofs.Common.{◌≡◌, ℕ, ◌+◌, ◌-◌, ◌%◌, ◌^◌, Bool, List, arith, ◌∙◌, ap, subst, sym}
use Rattle.bitvec_field.specs.IntegersLaws.{remainder-narrow}
use Rattle.bitvec_in_place.specs.ChangesLaws.{changes-numbered}
use Rattle.bitvec_in_place.specs.Cursors.{writing}
use Rattle.bitvec_in_place.specs.MovedLaws.{length-bits_of}
use Rattle.bitvec_in_place.specs.NumbersLaws.{number-numbered}
use Rattle.bitvec_in_place.specs.Ranges.{ChangesOnly, number_in}
use Rattle.bitvec_store.specs.WidthLaws.{width_some}
use Rattle.bitvec_in_place.proofs.writer.BitWriter.put_next.Goals as goal

pub returns-clause-number : goal.returns-clause-number
returns-clause-number g c =
    let high = g.O.WordOrder.HIGH in
    let b = g.T.BitStore.BITS in
    let old = (writing c.args.self.now).bits in
    let from = (writing c.args.self.now).position in
    let w = c.args.width in
    let width : from + w - from ≡ w = omega arith in
    let limited = c.args.self.now.limited in
    let whole = length-bits_of g.T.BitStore.BITS g.O.BitOrder.at g.T.BitStore.value c.args.self.now.elements.now in
    ap (λ (l : List Bool). number_in high high b l from (from + w)) c.store_plain.ensures.bits
    ∙ number-numbered high high b old from (from + w) (c.args.number % 2 ^ 64) (width_some b g.met.T.BitStore.width_law) (omega arith) (omega arith)
    ∙ ap (λ (n : ℕ). c.args.number % 2 ^ 64 % 2 ^ n) width
    ∙ remainder-narrow 64 w (pos c.args.number) (omega arith)

pub returns-clause-outside : goal.returns-clause-outside
returns-clause-outside g c =
    let high = g.O.WordOrder.HIGH in
    let old = (writing c.args.self.now).bits in
    let from = (writing c.args.self.now).position in
    let to = from + c.args.width in
    let limited = c.args.self.now.limited in
    let whole = length-bits_of g.T.BitStore.BITS g.O.BitOrder.at g.T.BitStore.value c.args.self.now.elements.now in
    subst (ChangesOnly from to old) (sym c.store_plain.ensures.bits) (changes-numbered old from to (omega arith) (omega arith) high high g.T.BitStore.BITS (c.args.number % 2 ^ 64))
