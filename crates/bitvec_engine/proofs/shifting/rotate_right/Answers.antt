use Rattle.std.proofs.Common.{ℕ, ◌-◌, ap, sym, ◌∙◌}
use Rattle.bitvec_base.specs.Lists.{rotated_left}
use Rattle.bitvec_base.specs.Memory.{list_in}
use Rattle.bitvec_base.specs.RotationLaws.{rotated_right-left}
use Rattle.bitvec_base.specs.WritesLaws.{length-list, Writes-is}
use Rattle.bitvec_engine.proofs.shifting.rotate_right.Goals as goal

pub returns-clause-writes : goal.returns-clause-writes
returns-clause-writes g c =
    let by = c.args.by in
    let list = list_in g.C.Elem.BitStore.BITS g.O.BitOrder.at (g.C.CellsRead.numbers c.args.cells.now) c.args.window in
    Writes-is c.rotate_left.ensures.writes
    (sym (rotated_right-left by list ∙ ap (λ (n : ℕ). rotated_left (n - by) list) (length-list g.O.BitOrder.at c.requires.window)))
