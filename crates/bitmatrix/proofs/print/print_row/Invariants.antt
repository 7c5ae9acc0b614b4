use Rattle.std.specs.Io.KnownBytes.{Appends}
use Rattle.std.specs.List.{flat_map}
use Rattle.bitmatrix.specs.Texts.{bit_text}
use Rattle.bitmatrix.proofs.print.print_row.Given as goal

abbrev pub invariant-loop-bit : goal.invariant-loop-bit
invariant-loop-bit g l = Appends (g.W.Write.contents l.initial.output) (g.W.Write.contents l.output) (flat_map bit_text l.yielded)
