use Rattle.std.proofs.Common.{refl}
use Rattle.packet.proofs.header.transport.Goals as goal

pub returns-then-protocol-eq6-clause-rows : goal.returns-then-protocol-eq6-clause-rows
returns-then-protocol-eq6-clause-rows c = rw c.if-protocol-eq6.true refl

pub returns-then-protocol-eq17-clause-rows : goal.returns-then-protocol-eq17-clause-rows
returns-then-protocol-eq17-clause-rows c = rw c.if-protocol-eq17.true refl
