use Rattle.std.proofs.Common.{Global, map, string_bytes, take}
use Rattle.pages.proofs.WordLaws.{AreDone}
use Rattle.pages.proofs.work.work.Given as goal

abbrev pub invariant-loop-word : goal.invariant-loop-word
invariant-loop-word g l = AreDone (take l.word-index (map (string_bytes {Z = Global}) l.words)) l.pages (g.W.Write.contents l.initial.output) (g.W.Write.contents l.output)
