use Rattle.std.proofs.Common.{◌≡◌, ◌∙◌, ◌+◌, Bool, List, ap, arith, false, length, replicate}
use Rattle.bitvec_base.specs.Window.{write_at}
use Rattle.bitvec_store.specs.WidthLaws.{width_some}
use Rattle.bitvec_owned.proofs.Fillings.{filled, filling}
use Rattle.bitvec_copying.specs.ElementsLaws.{refilled}
use Rattle.bitvec_owned.specs.Owned.{rest_bits}
use Rattle.bitvec_owned.proofs.growing.elements.put_same.Goals as goal

pub fill_rest-requires : goal.fill_rest-requires
fill_rest-requires g c =
    let room = c.in_ok-make_room.ensures in
    rw c.as_mut_slice-slice.ensures.len (record { inside = omega arith; bounded = room.fits })

pub fill_rest-requires-2 : goal.fill_rest-requires-2
fill_rest-requires-2 g c = let room = c.in_ok-make_room.ensures in rw (c.fill_rest.ensures.len, c.as_mut_slice-slice.ensures.len) (record { inside = room.inside; bounded = room.fits })

pub returns-clause-left : goal.returns-clause-left
returns-clause-left g c =
    let b = g.T.BitStore.BITS in
    let width = g.met.T.BitStore.width_law in
    let old = c.args.elements.now in
    let room = c.make_room.new.elements in
    let written = c.fill_rest-2.new.elements in
    let end = c.args.end + c.args.count in
    let size : length written ≡ room.len = c.fill_rest-2.ensures.len ∙ c.fill_rest.ensures.len ∙ c.as_mut_slice-slice.ensures.len in
    let bits = filling _ _ g.T.BitStore.value g.T.BitStore.ALL g.T.BitStore.ZERO (g.met.O.BitOrder.permutes _ width) g.met.T.BitStore.all_law g.met.T.BitStore.zero_law c.args.bit in
    let wrote = c.fill_rest-2.ensures.bits ∙ ap (λ (m : List Bool). write_at m end (replicate (rest_bits b end) false)) c.fill_rest.ensures.bits in
    rw (refilled written room.items room.len size)
    (filled _ _ _ (width_some _ width) _ c.args.bit bits old.items room.items written c.args.end c.args.count old.len
    old.ok.0 c.requires.touched c.in_ok-make_room.ensures.items (size ∙ room.ok.0) (rw c.as_mut_slice-slice.ensures.value at wrote))
