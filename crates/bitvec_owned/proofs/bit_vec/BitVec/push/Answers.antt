use Rattle.std.proofs.Common.{◌≡◌, ◌+◌, [], ◌∷◌, arith, refl}
use Rattle.bitvec_store.specs.WidthLaws.{width_some}
use Rattle.bitvec_owned.proofs.FrontLists.{one-set}
use Rattle.bitvec_owned.proofs.Fronts.{grown-shown, has-window}
use Rattle.bitvec_owned.specs.WritesLaws.{ends}
use Rattle.bitvec_owned.proofs.bit_vec.BitVec.push.Goals as goal

pub overflow_add-end : goal.overflow_add-end
overflow_add-end g c = omega (arith, ends (width_some _ g.met.T.BitStore.width_law) c.args.self.now)

pub overflow_add-self : goal.overflow_add-self
overflow_add-self g c = omega (arith, ends (width_some _ g.met.T.BitStore.width_law) c.args.self.now)

pub set_in-requires-clause-window : goal.set_in-requires-clause-window
set_in-requires-clause-window g c =
    let room = c.in_ok-make_room_for_bit.ensures in let inside = room.inside in
    has-window _ g.O.BitOrder.at g.T.BitStore.value (width_some _ g.met.T.BitStore.width_law) _ _ _ _ c.as_mut_slice.ensures.len room.fits (omega arith)

pub invariant_of-self-2 : goal.invariant_of-self-2
invariant_of-self-2 g c =
    let old = c.args.self.now in
    let place : old.head + (old.len + 1) ≡ old.head + old.len + 1 = omega arith in
    record { begins = old.begins; touched = rw place c.in_ok-make_room_for_bit.ensures.len; bounded = c.in_ok-make_room_for_bit.ensures.fits }

pub returns : goal.returns
returns g c =
    let old = c.args.self.now in
    let room = c.make_room_for_bit.new.elements in
    let shows = grown-shown _ _ _ (width_some _ g.met.T.BitStore.width_law) _ old.elements.items room.items _ _ _ room.len old.head old.len 1 _ (c.args.bit ∷ []) g.met.T.BitStore.zero_law
    old.elements.ok.0 old.touched c.in_ok-make_room_for_bit.ensures.items room.ok.0 c.as_mut_slice.ensures.value c.set_in.ensures.writes (one-set _ c.args.bit c.set_in.ensures.writes.long) in
    record { bits = shows.0; around = shows.1; len = refl; same = tt; full = tt; capacity = omega (arith, c.make_room_for_bit.ensures.capacity) }
