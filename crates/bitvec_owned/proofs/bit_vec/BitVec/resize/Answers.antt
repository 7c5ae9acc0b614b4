use Rattle.std.proofs.Common.{◌-◌, ◌∙◌, arith, replicate, sym}
use Rattle.std.proofs.lemmas.List.{length-replicate}
use Rattle.bitvec_store.specs.WidthLaws.{width_some}
use Rattle.bitvec_owned.proofs.FrontLists.{resized-fewer, resized-more}
use Rattle.bitvec_owned.proofs.Fronts.{added-around, added-bits}
use Rattle.bitvec_owned.specs.Owned.{owned}
use Rattle.bitvec_owned.specs.WritesLaws.{ends, inside, length-owned}
use Rattle.bitvec_owned.proofs.bit_vec.BitVec.resize.Goals as goal

pub returns-then-len-self-clause-bits : goal.returns-then-len-self-clause-bits
returns-then-len-self-clause-bits g c =
    let long = length-owned (width_some _ g.met.T.BitStore.width_law) c.args.self.now in
    c.truncate.ensures.bits ∙ sym (resized-fewer (owned c.args.self.now).bits c.args.len c.args.bit (omega arith))

pub overflow_add-end : goal.overflow_add-end
overflow_add-end g c = omega (arith, ends (width_some _ g.met.T.BitStore.width_law) c.args.self.now)

pub returns : goal.returns
returns g c =
    let some = width_some _ g.met.T.BitStore.width_law in
    let old = c.args.self.now in
    let new = c.put_same.new.elements.items in
    let more = replicate (c.args.len - old.len) c.args.bit in
    let many = length-replicate (c.args.len - old.len) c.args.bit in
    let long = length-owned some old in
    let left = c.in_ok-put_same.ensures.left in
    record {
      bits = rw (resized-more (owned old).bits c.args.len c.args.bit (omega arith), long) (added-bits _ _ _ some old.elements.items new old.head old.len more (inside some old) left c.args.len (omega arith));
      around = added-around _ _ _ some old.elements.items new old.head old.len more (inside some old) left c.args.len (omega arith);
      same = tt;
      full = tt;
      capacity = omega (arith, c.put_same.ensures.capacity);
    }
