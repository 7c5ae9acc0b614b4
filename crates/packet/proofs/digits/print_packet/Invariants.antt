use Rattle.std.proofs.Common.{take}
use Rattle.std.specs.Io.KnownBytes.{Appends}
use Rattle.std.specs.List.{flat_map}
use Rattle.packet.specs.Digits.{byte_text}
use Rattle.packet.proofs.digits.print_packet.Given as goal

abbrev pub invariant-loop-byte : goal.invariant-loop-byte
invariant-loop-byte g l = Appends (g.W.Write.contents l.initial.output) (g.W.Write.contents l.output) (flat_map byte_text (take l.byte-index l.bytes))
