use Rattle.std.proofs.Common.{◌∙◌}
use Rattle.std.proofs.lemmas.Bool.{ne_eqb}
use Rattle.bitvec_base.specs.CompareLaws.{same-unequal}
use Rattle.bitvec_base.specs.Memory.{list_in}
use Rattle.bitvec_base.specs.WritesLaws.{length-list}
use Rattle.bitvec_passes.proofs.CompareLemmas.{same-ordered}
use Rattle.bitvec_passes.proofs.by_bits.bits_eq.Goals as goal

pub returns-then-left_window-right_window-clause-value : goal.returns-then-left_window-right_window-clause-value
returns-then-left_window-right_window-clause-value g c =
    let list = list_in g.C.Elem.BitStore.BITS g.O.BitOrder.at (g.C.CellsRead.numbers c.args.left.now) c.args.left_window in
    let right_list = list_in g.D.Elem.BitStore.BITS g.P.BitOrder.at (g.D.CellsRead.numbers c.args.right.now) c.args.right_window in
    rw (c.is_eq.ensures, c.compare.ensures.value) (same-ordered list right_list)

pub returns-else-left_window-right_window-clause-value : goal.returns-else-left_window-right_window-clause-value
returns-else-left_window-right_window-clause-value g c =
    ne_eqb _ _ c.if-left_window-right_window.false ∙ same-unequal _ _ (length-list g.O.BitOrder.at c.requires.window) (length-list g.P.BitOrder.at c.requires.right_window) c.if-left_window-right_window.false
