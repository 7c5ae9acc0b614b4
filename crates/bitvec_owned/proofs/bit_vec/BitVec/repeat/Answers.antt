use Rattle.std.proofs.Common.{◌≡◌, ◌-◌, ◌∙◌, [], ◌++◌, Bool, List, ap, arith, length, refl, replicate, take}
use Rattle.bitvec_store.specs.WidthLaws.{width_some}
use Rattle.bitvec_owned.proofs.FrontLists.{resized-more}
use Rattle.bitvec_owned.specs.AroundLaws.{holds-then}
use Rattle.bitvec_owned.specs.Owned.{owned}
use Rattle.bitvec_owned.specs.WritesLaws.{owned-room}
use Rattle.bitvec_owned.proofs.bit_vec.BitVec.repeat.Goals as goal

pub returns-clause-copy : goal.returns-clause-copy
returns-clause-copy g c =
    let made = c.new_in-made.ensures.held in
    let bit = c.args.bit in
    let len = c.args.len in
    let all : len - 0 ≡ len = omega arith in
    holds-then g.T.BitStore.BITS (owned c.new_in-made.result) (owned c.resize.new.self) [] (replicate len bit) 0 made c.in_ok-resize.ensures.around
    (c.in_ok-resize.ensures.bits ∙ ap (λ (l : List Bool). take len l ++ replicate (len - length l) bit) made.bits ∙ resized-more [] len bit (omega arith) ∙ rw all refl)

pub returns-clause-capacity : goal.returns-clause-capacity
returns-clause-capacity g c = owned-room (width_some _ g.met.T.BitStore.width_law) c.resize.new.self
