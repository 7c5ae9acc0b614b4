use Rattle.std.specs.Prelude.{◌-◌}
use Rattle.std.proofs.Common.{ap, sym}
use Rattle.bitvec_slice.specs.Views.{name_of}
use Rattle.bitvec_iter.specs.BitsLending.{same-with}
use Rattle.bitvec_iter.proofs.lent_bits.IterMut.lent_last.Goals as goal

pub returns : goal.returns
returns g c =
    let i = c.args.self.now in ((sym (ap name_of c.new.ensures.piece), λ w. same-with i (i.front) (i.back - 1) _ _ _ _ _), record { writes_back = tt; lent = c.new.ensures.lent; bit = rw c.new.ensures.piece c.part_mut-piece.ensures.part })
