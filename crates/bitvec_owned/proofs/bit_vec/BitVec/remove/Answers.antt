use Rattle.std.proofs.Common.{◌-◌, ◌∙◌, ap, arith, refl, take}
use Rattle.bitvec_owned.proofs.Middles.{closed_one}
use Rattle.bitvec_owned.specs.Owned.{owned}
use Rattle.bitvec_owned.specs.AroundLaws.{around-then, around-written}
use Rattle.bitvec_owned.proofs.bit_vec.BitVec.remove.Goals as goal

pub returns-clause-bits : goal.returns-clause-bits
returns-clause-bits g c =
    let long = c.len-len.ensures.value in
    c.truncate.ensures.bits
    ∙ ap (take (c.len-len.result - 1)) c.copy_within.ensures.bits
    ∙ closed_one (owned c.args.self.now).bits c.args.index c.len-len.result (c.len-len.result - 1) long (omega arith) refl

pub returns-clause-around : goal.returns-clause-around
returns-clause-around g c =
    let old = c.args.self.now in
    let moved = c.copy_within.new.self in
    around-then _ (owned old) (owned moved) (owned c.truncate.new.self) (around-written old moved _ c.copy_within.ensures) c.truncate.ensures.around
