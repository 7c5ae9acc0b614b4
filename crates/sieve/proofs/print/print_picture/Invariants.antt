use Rattle.std.specs.Io.KnownBytes.{Appends}
use Rattle.std.specs.List.{flat_map}
use Rattle.bitvec.specs.Views.{seen}
use Rattle.sieve.specs.Texts.{row_text}
use Rattle.sieve.proofs.print.print_picture.Given as goal

abbrev pub invariant-loop-row : goal.invariant-loop-row
invariant-loop-row g l = Appends (g.W.Write.contents l.initial.output) (g.W.Write.contents l.output) (flat_map (λ row. row_text (seen row).bits) l.yielded)
