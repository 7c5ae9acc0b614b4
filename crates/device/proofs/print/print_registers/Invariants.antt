use Rattle.std.proofs.Common.{take}
use Rattle.std.specs.Io.KnownBytes.{Appends}
use Rattle.std.specs.List.{flat_map}
use Rattle.device.specs.Program.{register_text}
use Rattle.device.proofs.print.print_registers.Given as goal

abbrev pub invariant-loop-register : goal.invariant-loop-register
invariant-loop-register g l = Appends (g.W.Write.contents l.initial.output) (g.W.Write.contents l.output) (flat_map register_text (take l.register-index l.register-items))
