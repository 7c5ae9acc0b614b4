use Rattle.std.proofs.Common.{append_assoc}
use Rattle.packet.proofs.print.print_field.Goals as goal

pub returns : goal.returns
returns g c = simp append_assoc c.writeln.ensures.bytes
