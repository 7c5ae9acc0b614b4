use Rattle.std.proofs.Common.{◌≡◌, Bool, nat_eq, not, refl}
use Rattle.bitvec_store.specs.WidthLaws.{width_some}
use Rattle.bitvec_within.proofs.Combining.{cut_windows, is_earlier, is_later, sides-combined}
use Rattle.bitvec_within.proofs.combining_within.combine_cut.Goals.{then-this-ne0, else-this-ne0}
use Rattle.bitvec_within.proofs.combining_within.combine_cut.Goals as goal

pub returns : goal.returns
returns g c =
    let later : Bool = not (nat_eq g.row.LATER 0) in
    let places : c.if-this-ne0.windows ≡ cut_windows later c.args.ranges =
    elim c.if-this-ne0.branch [ then-this-ne0 w ↦ rw (w.windows-is, is_later _ w.if-this-ne0.true) refl | else-this-ne0 w ↦ rw (w.windows-is, is_earlier _ w.if-this-ne0.false) refl ] in
    let wrote = rw places at c.combine_block_in.ensures.writes in
    record {
      combines = sides-combined _ _ _ g.T.BitStore.value _ _ _ c.args.ranges c.BITS.ensures c.requires.ranges c.max.ensures (rw c.max.ensures c.requires.edge) g.O.BitOrder.at (width_some _ g.met.T.BitStore.width_law) c.combine_block_in.new.left c.args.op later c.requires.apart c.sides-left.ensures.parts wrote;
    }
