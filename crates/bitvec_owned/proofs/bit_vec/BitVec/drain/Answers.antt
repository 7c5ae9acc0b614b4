use Rattle.std.proofs.Common.{◌-◌, ◌∙◌, ap, arith, refl, take}
use Rattle.bitvec_owned.proofs.Middles.{closed}
use Rattle.bitvec_owned.specs.Owned.{owned}
use Rattle.bitvec_owned.specs.AroundLaws.{around-then, around-written}
use Rattle.bitvec_owned.proofs.bit_vec.BitVec.drain.Goals as goal

pub returns-clause-bits : goal.returns-clause-bits
returns-clause-bits g c =
    let long = c.len-len.ensures.value in
    c.truncate.ensures.bits
    ∙ ap (take (c.len-len.result - (c.args.range.end - c.args.range.start))) c.copy_within.ensures.bits
    ∙ closed (owned c.args.self.now).bits c.args.range.start c.args.range.end c.len-len.result _ long (omega arith) (omega arith) refl

pub returns-clause-around : goal.returns-clause-around
returns-clause-around g c =
    let old = c.args.self.now in
    let moved = c.copy_within.new.self in
    around-then _ (owned old) (owned moved) (owned c.truncate.new.self) (around-written old moved _ c.copy_within.ensures) c.truncate.ensures.around
