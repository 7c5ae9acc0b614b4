use Rattle.std.specs.Io.KnownBytes.{Appends}
use Rattle.bitvec.specs.Views.{seen}
use Rattle.bitmatrix.specs.Texts.{rows_below}
use Rattle.bitmatrix.proofs.print.print_rows.Given as goal

abbrev pub invariant-loop-i : goal.invariant-loop-i
invariant-loop-i g l = Appends (g.W.Write.contents l.initial.output) (g.W.Write.contents l.output) (rows_below l.i l.n (seen l.matrix).bits)
