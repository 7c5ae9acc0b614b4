use Rattle.std.specs.Prelude.{◌+◌}
use Rattle.std.proofs.Common.{refl}
use Rattle.bitvec_iter.specs.BitsLending.{same-with}
use Rattle.bitvec_iter.proofs.lent_bits.IterMut.take_mut.Goals as goal

pub returns : goal.returns
returns g c =
    let i = c.args.self.now in
    ((refl, λ w. same-with i (i.front + 1) i.back _ _ _ _ _), record { writes_back = tt; bit = c.bit_mut.ensures.bit })
