use Rattle.std.proofs.Common.{rules}
use Rattle.bitvec_cells.proofs.FindLemmas.{sought-shows}
use Rattle.bitvec_cells.proofs.find.sought.Goals as goal
use Rattle.bitvec_cells.proofs.find.sought.Goals.{then-want, else-want}

pub returns : goal.returns
returns g c =
    let width = g.met.T.BitStore.width_law in
    sought-shows g.T.BitStore.BITS g.O.BitOrder.at (g.met.O.BitOrder.permutes _ width) _ _ _ _ c.args.want c.requires.order c.requires.bound c.in_range.ensures
    (elim c.if-want.branch [ then-want w ↦ search rules | else-want w ↦ search rules ])
