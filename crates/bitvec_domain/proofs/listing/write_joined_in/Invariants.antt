use Rattle.std.proofs.Common.{map, take}
use Rattle.std.specs.Fmt.{HasWritten, IsPlainFormatter}
use Rattle.std.specs.List.{join_by}
use Rattle.bitvec_base.specs.Memory.{list_in}
use Rattle.bitvec_domain.specs.Listing.{bit_text, comma}
use Rattle.bitvec_domain.proofs.listing.write_joined_in.Given as goal

abbrev pub invariant-loop-index : goal.invariant-loop-index
invariant-loop-index g l =
    IsPlainFormatter l.initial.f
    → HasWritten g.W.Write.write_str_gives l.initial.f (join_by bit_text comma (take l.index (list_in g.T.BitStore.BITS g.O.BitOrder.at (map g.T.BitStore.value l.elements) l.window))) l.f
