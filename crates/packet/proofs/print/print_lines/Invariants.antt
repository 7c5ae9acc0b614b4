use Rattle.std.proofs.Common.{take}
use Rattle.std.specs.Io.KnownBytes.{Appends}
use Rattle.std.specs.List.{flat_map}
use Rattle.packet.specs.Packets.{places_of}
use Rattle.packet.specs.Texts.{field_text}
use Rattle.packet.proofs.print.print_lines.Given as goal

abbrev pub invariant-loop-number : goal.invariant-loop-number
invariant-loop-number g l =
    Appends (g.W.Write.contents l.initial.output) (g.W.Write.contents l.output) (flat_map (field_text l.bytes) (take l.number (places_of l.fields)))
