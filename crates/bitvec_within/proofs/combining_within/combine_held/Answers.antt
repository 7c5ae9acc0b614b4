use Rattle.std.proofs.Common.{◌+◌, ◌*◌, ◌≤◌, arith, length}
use Rattle.std.proofs.lemmas.List.{length-map}
use Rattle.bitvec_store.specs.WidthLaws.{width_some}
use Rattle.bitvec_within.proofs.Aside.{first-before, held-list, held-room}
use Rattle.bitvec_within.proofs.Combining.{window-combined}
use Rattle.bitvec_within.proofs.combining_within.combine_held.Goals as goal

pub returns : goal.returns
returns g c =
    let b = g.T.BitStore.BITS in
    let value = g.T.BitStore.value in
    let cells = c.args.elements.now in
    let from = c.args.ranges.from in
    let len = c.args.ranges.len in
    let many = c.requires.many in
    let inside : from + len ≤ b * length cells = rw (← length-map cells value) c.requires.ranges.source in
    let first-is = rw c.BITS-bits.ensures at c.min-first.ensures in
    let before = first-before b from _ _ first-is in
    let room = held-room b len (length cells) from _ _ first-is many inside c.requires.held in
    let same = held-list b g.O.BitOrder.at value cells c.copy_from_slice.new.self from _ _ len (width_some b g.met.T.BitStore.width_law) c.copy_from_slice.ensures.after (omega arith) before room in
    record { combines = window-combined {b = b} {at = g.O.BitOrder.at} c.args.ranges c.args.op (rw same at (rw c.BITS-bits.ensures at c.combine_block_in.ensures.writes)) }
