use Rattle.std.proofs.Common.{◌^◌, ◌<◌, take}
use Rattle.std.specs.Prelude.{All}
use Rattle.std.specs.Io.KnownBytes.{Appends}
use Rattle.std.specs.List.{flat_map}
use Rattle.bitdo_work.specs.Texts.{next_text}
use Rattle.bitdo_work.proofs.print.print_following.Given as goal

abbrev pub invariant-loop-element : goal.invariant-loop-element
invariant-loop-element g l =
    Appends (g.W.Write.contents l.initial.output) (g.W.Write.contents l.output)
    (flat_map (λ element. next_text g.T.BitStore.BITS (g.T.BitStore.value element)) (take l.element-index l.elements))
    × All (λ element. g.T.BitStore.value element < 2 ^ g.T.BitStore.BITS) (take l.element-index l.elements)
