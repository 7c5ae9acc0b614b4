use Rattle.std.proofs.Common.{◌≡◌}
use Rattle.packet.specs.Packets.{word_windows}
use Rattle.packet.proofs.header.layout_of_words.Given as goal

abbrev pub invariant-loop-number : goal.invariant-loop-number
invariant-loop-number g l = l.windows.items ≡ word_windows l.number
