use Rattle.std.proofs.Common.{◌-◌, ◌∙◌, ap, arith, take}
use Rattle.bitvec_owned.proofs.Middles.{exchanged}
use Rattle.bitvec_owned.specs.Owned.{owned}
use Rattle.bitvec_owned.specs.AroundLaws.{around-then, around-written}
use Rattle.bitvec_owned.proofs.bit_vec.BitVec.swap_remove.Goals as goal

pub returns-clause-bits : goal.returns-clause-bits
returns-clause-bits g c =
    c.truncate.ensures.bits
    ∙ ap (take (c.len-last.result - 1)) c.swap.ensures.bits
    ∙ exchanged (owned c.args.self.now).bits c.args.index (c.len-last.result - 1) _ (omega arith) (omega arith)

pub returns-clause-around : goal.returns-clause-around
returns-clause-around g c =
    let old = c.args.self.now in
    let moved = c.swap.new.self in
    around-then _ (owned old) (owned moved) (owned c.truncate.new.self) (around-written old moved _ c.swap.ensures) c.truncate.ensures.around
