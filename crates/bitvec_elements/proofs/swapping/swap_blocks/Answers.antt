use Rattle.std.proofs.Common.{◌≡◌, ◌*◌, arith, length, map, refl, sym, ◌∙◌}
use Rattle.std.proofs.lemmas.List.{length-map, length-replicate}
use Rattle.bitvec_base.specs.Memory.{list_in}
use Rattle.bitvec_base.specs.WritesLaws.{Writes-holds, length-list}
use Rattle.bitvec_elements.proofs.RecutLemmas.{block-swapped}
use Rattle.bitvec_elements.proofs.StoreLemmas.{range-kept, stretch-all, stretch-none}
use Rattle.bitvec_elements.proofs.swapping.swap_blocks.Goals as goal

pub loop-from-init : goal.loop-from-init
loop-from-init g c = record {
  fits = omega arith;
  count = length-replicate _ _;
  writes = stretch-none _ _ _ _ c.args.left_window (list_in g.U.BitStore.BITS g.P.BitOrder.at (map g.U.BitStore.value c.args.right.now) c.args.right_window) c.requires.pair.window refl;
  right_writes = stretch-none _ _ _ _ c.args.right_window (list_in g.T.BitStore.BITS g.W.BitOrder.at (map g.T.BitStore.value c.args.left.now) c.args.left_window) c.requires.pair.beside refl;
}

pub hold-held-requires-clause-window : goal.hold-held-requires-clause-window
hold-held-requires-clause-window g c =
    range-kept _ _ _ _ _ _ _ c.requires.pair.beside c.loop-from.invariant.right_writes.elements c.range-other.ensures (omega arith) (let lengths = c.requires.pair.lengths in omega arith)

pub hold-held-requires-clause-room : goal.hold-held-requires-clause-room
hold-held-requires-clause-room g c =
    let all : g.T.BitStore.BITS * length c.loop-from.block ≡ c.room_of-room.result = rw c.loop-from.invariant.count (sym c.room_of-room.ensures.value) in
    rw c.range-other.ensures (omega arith)

pub loop-from-preserved : goal.loop-from-preserved
loop-from-preserved g c =
    let inv = c.loop-from.invariant in
    let lengths = c.requires.pair.lengths in
    let kept = Writes-holds c.hold-held.ensures.window c.swap_with_block_in.ensures.right_writes in
    record {
      fits = omega arith;
      count = sym (length-map c.swap_with_block_in.new.right g.T.BitStore.value) ∙ c.swap_with_block_in.ensures.right_writes.elements ∙ length-map c.hold-held.new.block g.T.BitStore.value ∙ c.hold-held.ensures.count ∙ inv.count;
      writes = block-swapped c.loop-from.from _ c.requires.pair.window c.requires.pair.beside lengths (omega arith) (omega arith) c.range-part.ensures c.range-other.ensures inv.right_writes c.hold-held.ensures.bits inv.writes c.swap_with_block_in.ensures.writes;
      right_writes = block-swapped c.loop-from.from _ c.requires.pair.beside c.requires.pair.window (sym lengths) (omega arith) (omega arith) c.range-other.ensures c.range-part.ensures inv.writes kept inv.right_writes c.copy_from_in.ensures.writes;
    }

pub returns : goal.returns
returns g c =
    let inv = c.loop-from.invariant in
    let lengths = c.requires.pair.lengths in
    let long = length-list g.W.BitOrder.at c.requires.pair.window in
    let right_long = length-list g.P.BitOrder.at c.requires.pair.beside in
    let list = list_in g.T.BitStore.BITS g.W.BitOrder.at (map g.T.BitStore.value c.args.left.now) c.args.left_window in
    let right_list = list_in g.U.BitStore.BITS g.P.BitOrder.at (map g.U.BitStore.value c.args.right.now) c.args.right_window in
    record {
      writes = stretch-all c.args.left_window {list = right_list} c.loop-from.from (omega arith) (right_long ∙ sym lengths) inv.writes;
      right_writes = stretch-all c.args.right_window {list = list} c.loop-from.from (omega arith) (long ∙ lengths) inv.right_writes;
    }
