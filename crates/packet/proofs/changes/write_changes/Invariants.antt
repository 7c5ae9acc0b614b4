use Rattle.std.proofs.Common.{take}
use Rattle.packet.specs.Changes.{WritesChanges}
use Rattle.packet.proofs.changes.write_changes.Given as goal

abbrev pub invariant-loop-change : goal.invariant-loop-change
invariant-loop-change g l = WritesChanges l.layout.fields.items (take l.change-index l.changes) l.initial.view l.view
