use Rattle.std.proofs.Common.{◌∙◌, ℕ, ◌+◌, ◌++◌, ap, length, length-append, subst, sym}
use Rattle.bitvec_slice.specs.Seen.{Seen}
use Rattle.bitvec_store.specs.WidthLaws.{width_some}
use Rattle.bitvec_owned.specs.Copies.{KeepsAround}
use Rattle.bitvec_owned.specs.Owned.{owned}
use Rattle.bitvec_owned.specs.WritesLaws.{length-owned}
use Rattle.bitvec_owned.proofs.bit_vec.BitVec.extend_from_bools.Goals as goal

pub returns-clause-bits : goal.returns-clause-bits
returns-clause-bits g c = c.put_bools.ensures.bits ∙ ap (λ (s : Seen g.row.T.Denot). s.bits ++ c.args.bools.now) c.in_ok-reserve.ensures.same

pub returns-clause-around : goal.returns-clause-around
returns-clause-around g c = subst (λ (s : Seen g.row.T.Denot). KeepsAround g.T.BitStore.BITS s (owned c.put_bools.new.self)) c.in_ok-reserve.ensures.same c.put_bools.ensures.around

pub returns-clause-len : goal.returns-clause-len
returns-clause-len g c =
    let some = width_some _ g.met.T.BitStore.width_law in
    let bits = c.put_bools.ensures.bits ∙ ap (λ (s : Seen g.row.T.Denot). s.bits ++ c.args.bools.now) c.in_ok-reserve.ensures.same in
    let old = (owned c.args.self.now).bits in
    sym (length-owned some c.put_bools.new.self) ∙ ap length bits ∙ length-append old c.args.bools.now ∙ ap (λ (n : ℕ). n + length c.args.bools.now) (length-owned some c.args.self.now)
