use Rattle.std.proofs.Common.{false}
use Rattle.bitvec_checked.proofs.NumberLemmas.{loaded-fits}
use Rattle.bitvec_checked.proofs.numbers.load_le_in.Goals as goal

pub overflow_cast-result : goal.overflow_cast-result
overflow_cast-result g c =
    let number = rw c.new-cells.ensures.numbers at c.load_le.ensures.value in
    rw number (record { fits = loaded-fits false g.O.WordOrder.HIGH g.T.BitStore.BITS c.args.window.start g.O.BitOrder.at _ c.args.window c.requires.window c.requires.bound })
