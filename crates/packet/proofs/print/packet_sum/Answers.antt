use Rattle.std.proofs.Common.{List, sym, subst}
use Rattle.bitvec.specs.Types.{Window}
use Rattle.packet.specs.Packets.{AreWords}
use Rattle.packet.proofs.HeaderLaws.{header-words}
use Rattle.packet.proofs.print.packet_sum.Goals as goal

pub header_sum-requires-clause-words : goal.header_sum-requires-clause-words
header_sum-requires-clause-words g c =
    subst (λ (l : List Window). AreWords l) (sym c.requires.header.words.fields) (header-words c.args.bytes.now c.args.header.now c.requires.header)
