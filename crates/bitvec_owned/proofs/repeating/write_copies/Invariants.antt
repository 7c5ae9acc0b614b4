use Rattle.std.proofs.Common.{◌≡◌, length, map}
use Rattle.std.specs.List.{repeat}
use Rattle.bitvec_base.specs.Memory.{memory_bits}
use Rattle.bitvec_base.specs.Window.{write_at}
use Rattle.bitvec_slice.specs.Views.{seen}
use Rattle.bitvec_owned.proofs.repeating.write_copies.Given as goal

abbrev pub invariant-loop-number : goal.invariant-loop-number
invariant-loop-number g l =
    let bits = memory_bits g.T.BitStore.BITS g.O.BitOrder.at in
    (bits (map g.T.BitStore.value l.elements) ≡ write_at (bits (map g.T.BitStore.value l.initial.elements)) 0 (repeat l.number (seen l.fn.view).bits))
    × (length l.elements ≡ length l.initial.elements)
