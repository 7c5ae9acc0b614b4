use Rattle.bitvec_base.specs.MemoryLaws.{length-element_bits}
use Rattle.bitvec_words.specs.ElementLaws.{element-xor}
use Rattle.bitvec_words.proofs.ShiftedLaws.{shifted-joined}
use Rattle.bitvec_words.proofs.element.joined.Goals as goal

pub returns : goal.returns
returns g c =
    let b = g.T.BitStore.BITS in
    let at = g.O.BitOrder.at in
    rw (c.xor.ensures, element-xor, c.toward_start.ensures, c.toward_end-carried.ensures)
    (shifted-joined c.args.skip _ _ (length-element_bits b at _) (length-element_bits b at _) c.BITS.ensures c.requires.bound)
