use Rattle.std.proofs.Common.{◌∙◌, [], ◌++◌, Bool, List, ap}
use Rattle.bitvec_store.specs.WidthLaws.{width_some}
use Rattle.bitvec_owned.specs.AroundLaws.{holds-then}
use Rattle.bitvec_owned.specs.Owned.{owned}
use Rattle.bitvec_owned.specs.WritesLaws.{owned-room}
use Rattle.bitvec_owned.proofs.bit_vec.BitVec.from_bools.Goals as goal

pub returns-clause-copy : goal.returns-clause-copy
returns-clause-copy g c =
    let made = c.in_ok-made.ensures.made in
    let bools = c.args.bools.now in
    holds-then g.T.BitStore.BITS (owned c.in_ok-made.made) (owned c.put_bools.new.self) [] bools 0 made c.put_bools.ensures.around (c.put_bools.ensures.bits ∙ ap (λ (l : List Bool). l ++ bools) made.bits)

pub returns-clause-capacity : goal.returns-clause-capacity
returns-clause-capacity g c = owned-room (width_some _ g.met.T.BitStore.width_law) c.put_bools.new.self
