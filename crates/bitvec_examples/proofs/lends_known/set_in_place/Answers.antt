use Rattle.std.proofs.Common.{◌+◌, arith}
use Rattle.bitvec.specs.KeptLaws.{lent_bits-keep}
use Rattle.bitvec.specs.WidthLaws.{width_some}
use Rattle.bitvec_examples.proofs.lends_known.set_in_place.Goals as goal

pub returns-clause-elements : goal.returns-clause-elements
returns-clause-elements g c =
    let inside = c.requires in
    lent_bits-keep c.args.view.now c.args.index (c.args.index + 1) _ _ _ (width_some _ g.met.T.BitStore.width_law) (omega arith) (omega arith) (omega arith) (omega arith)
