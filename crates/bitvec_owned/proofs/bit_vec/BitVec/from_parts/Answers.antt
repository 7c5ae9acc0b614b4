use Rattle.std.proofs.Common.{◌+◌, arith}
use Rattle.bitvec_store.specs.WidthLaws.{width_some}
use Rattle.bitvec_owned.specs.WritesLaws.{held-usable}
use Rattle.bitvec_owned.proofs.bit_vec.BitVec.from_parts.Goals as goal

pub returns-clause-room : goal.returns-clause-room
returns-clause-room g c =
    let held = held-usable g.T.BitStore.BITS (c.args.head + c.args.len) _ _ (width_some _ g.met.T.BitStore.width_law) c.requires.touched c.args.elements.ok.1 c.requires.fits in
    omega arith
