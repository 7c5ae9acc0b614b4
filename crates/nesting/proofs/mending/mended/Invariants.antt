use Rattle.std.proofs.Common.{take}
use Rattle.nesting.proofs.BracketLaws.{IsMended}
use Rattle.nesting.proofs.mending.mended.Given as goal

abbrev pub invariant-loop-byte : goal.invariant-loop-byte
invariant-loop-byte l = IsMended (take l.byte-index l.text) l.marks l.mended.items
