use Rattle.std.proofs.Common.{arith, vec_capacity}
use Rattle.bitvec_store.specs.WidthLaws.{width_some}
use Rattle.bitvec_owned.proofs.Rooms.{granted, refused, usable-most}
use Rattle.bitvec_owned.proofs.growing.elements.make_room.Goals as goal

pub returns-in_err-count-clause-full : goal.returns-in_err-count-clause-full
returns-in_err-count-clause-full g c =
    let most = usable-most g.T.BitStore.BITS (width_some _ g.met.T.BitStore.width_law) (vec_capacity c.args.elements.now) in
    let past = c.in_err-count.ensures.full in
    refused c.from_residual.result (omega arith)

pub returns-then-bit : goal.returns-then-bit
returns-then-bit g c =
    let room = c.in_ok-count.ensures in
    let made = c.resize.ensures in
    let got = granted g.T.BitStore.BITS (width_some _ g.met.T.BitStore.width_law) c.resize.result c.args.end _ _ _ _ _ room.count room.few made.len made.full made.capacity in
    record { items = rw c.if-bit.true (rw (room.count, c.ALL.ensures) at made.items); len = rw room.count at made.len; fits = got.0; inside = got.1; full = got.2; capacity = got.3 }

pub returns-else-bit : goal.returns-else-bit
returns-else-bit g c =
    let room = c.in_ok-count.ensures in
    let made = c.resize-else-bit.ensures in
    let got = granted g.T.BitStore.BITS (width_some _ g.met.T.BitStore.width_law) c.resize-else-bit.result c.args.end _ _ _ _ _ room.count room.few made.len made.full made.capacity in
    record { items = rw c.if-bit.false (rw (room.count, c.ZERO.ensures) at made.items); len = rw room.count at made.len; fits = got.0; inside = got.1; full = got.2; capacity = got.3 }
