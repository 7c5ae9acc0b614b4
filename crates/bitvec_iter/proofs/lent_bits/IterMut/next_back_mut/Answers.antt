use Rattle.bitvec_iter.proofs.PartLaws.{bit-given}
use Rattle.bitvec_iter.proofs.lent_bits.IterMut.next_back_mut.Goals as goal

pub returns : goal.returns
returns g c = bit-given c.next_back_lent.result.piece _ c.next_back_lent.ensures.lent c.next_back_lent.ensures.bit c.bit.ensures.some c.bit.ensures.bit
