use Rattle.std.proofs.Common.{refl, sym}
use Rattle.bitvec_slice.specs.LentLaws.{bit-of_part}
use Rattle.bitvec_iter.proofs.lent_bits.IterMut.bit_mut.Goals as goal

pub returns : goal.returns
returns g c =
    let is = c.into_reference.ensures in ((sym is.name, λ w. refl), record { writes_back = tt; bit = bit-of_part _ _ c.part_mut.result _ c.part_mut.ensures.part (record { bit = is.bit; place = is.place; elements = is.elements; name = is.name }) })
