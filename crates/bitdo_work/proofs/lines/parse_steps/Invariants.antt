use Rattle.std.proofs.Common.{length}
use Rattle.std.specs.Str.Lines.{lines}
use Rattle.bitdo_work.proofs.LineLaws.{HasRead}
use Rattle.bitdo_work.proofs.lines.parse_steps.Given as goal

abbrev pub invariant-loop-index : goal.invariant-loop-index
invariant-loop-index g l = HasRead (lines l.text) (length l.yielded) l.steps.items
