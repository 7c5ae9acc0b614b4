use Rattle.std.proofs.Common.{Global, map, string_bytes}
use Rattle.nesting.specs.Texts.{PrintsMended}
use Rattle.nesting.proofs.work.work.Given as goal

abbrev pub invariant-loop-word : goal.invariant-loop-word
invariant-loop-word g l = PrintsMended (map (string_bytes {Z = Global}) l.words) l.word-index (g.W.Write.contents l.initial.output) (g.W.Write.contents l.output)
