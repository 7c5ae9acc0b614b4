use Rattle.std.proofs.Common.{◌≡◌, ◌+◌, arith, refl}
use Rattle.bitvec_store.specs.WidthLaws.{width_some}
use Rattle.bitvec_slice.specs.Views.{seen}
use Rattle.bitvec_owned.proofs.Fronts.{grown-shown, has-window}
use Rattle.bitvec_owned.proofs.Rooms.{refused}
use Rattle.bitvec_owned.specs.WritesLaws.{ends, held}
use Rattle.bitvec_owned.proofs.bit_vec.BitVec.extend_from_block.Goals as goal

pub overflow_add-end : goal.overflow_add-end
overflow_add-end g c = omega (arith, ends (width_some _ g.met.T.BitStore.width_law) c.args.self.now)

pub overflow_add-end-2 : goal.overflow_add-end-2
overflow_add-end-2 g c = let view = c.window-from.ensures.inside in omega (arith, ends (width_some _ g.met.T.BitStore.width_law) c.args.self.now, view.fits, view.within.len)

pub returns-in_err-make_room-clause-full : goal.returns-in_err-make_room-clause-full
returns-in_err-make_room-clause-full g c =
    let room = held (width_some _ g.met.T.BitStore.width_law) c.args.self.now in
    let full = rw c.window-from.ensures.value at c.in_err-make_room.ensures.full in
    refused c.from_residual.result (omega arith)

pub overflow_add-self : goal.overflow_add-self
overflow_add-self g c = omega (arith, c.in_ok-make_room.ensures.inside, c.in_ok-make_room.ensures.fits)

pub copy_from_block_in-requires-clause-window : goal.copy_from_block_in-requires-clause-window
copy_from_block_in-requires-clause-window g c =
    let room = c.in_ok-make_room.ensures in has-window _ g.O.BitOrder.at g.T.BitStore.value (width_some _ g.met.T.BitStore.width_law) _ _ _ _ c.as_mut_slice.ensures.len room.fits room.inside

pub invariant_of-self-2 : goal.invariant_of-self-2
invariant_of-self-2 g c =
    let old = c.args.self.now in
    let place : old.head + (old.len + c.window-from.result.len) ≡ old.head + old.len + c.window-from.result.len = omega arith in
    record { begins = old.begins; touched = rw place c.in_ok-make_room.ensures.len; bounded = c.in_ok-make_room.ensures.fits }

pub returns : goal.returns
returns g c =
    let old = c.args.self.now in
    let room = c.make_room.new.elements in
    let shows = grown-shown _ _ _ (width_some _ g.met.T.BitStore.width_law) _ old.elements.items room.items _ _ _ room.len old.head old.len _ _ (seen c.args.bits).bits g.met.T.BitStore.zero_law
    old.elements.ok.0 old.touched c.in_ok-make_room.ensures.items room.ok.0 c.as_mut_slice.ensures.value c.copy_from_block_in.ensures.writes (rw (c.elements.ensures, c.window-from.ensures.value) refl) in
    record { bits = shows.0; around = shows.1; same = tt; full = tt; capacity = omega (arith, c.make_room.ensures.capacity) }
