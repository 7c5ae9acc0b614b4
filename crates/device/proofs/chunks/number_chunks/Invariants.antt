use Rattle.std.specs.Prelude.{◌*◌}
use Rattle.device.specs.Chunks.{HaveNumbers}
use Rattle.device.proofs.chunks.number_chunks.Given as goal

abbrev pub invariant-loop-number : goal.invariant-loop-number
invariant-loop-number l = HaveNumbers (5 * l.number) l.bytes
