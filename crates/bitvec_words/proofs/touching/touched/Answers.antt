use Rattle.std.proofs.Common.{◌+◌, ◌-◌, arith, sym}
use Rattle.std.proofs.Math.Nat.{div-le_self, mod-le}
use Rattle.bitvec_store.specs.WidthLaws.{width_some}
use Rattle.bitvec_words.specs.TouchedLaws.{touched-last}
use Rattle.bitvec_words.proofs.touching.touched.Goals as goal

pub overflow_add-phase : goal.overflow_add-phase
overflow_add-phase g c = let below = mod-le c.args.window.start g.T.BitStore.BITS in omega arith

pub overflow_add-result : goal.overflow_add-result
overflow_add-result g c =
    let below = mod-le c.args.window.start g.T.BitStore.BITS in
    let few = div-le_self (c.phase.result + c.args.window.len - 1) g.T.BitStore.BITS in
    omega arith

pub returns-clause-touched : goal.returns-clause-touched
returns-clause-touched g c =
    rw (c.elements_of.ensures, c.phase.ensures) (sym (touched-last _ _ _ (width_some _ g.met.T.BitStore.width_law) c.requires.some))
