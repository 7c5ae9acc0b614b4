use Rattle.std.proofs.Common.{arith, sym}
use Rattle.bitvec_store.specs.WidthLaws.{width_some}
use Rattle.bitvec_slice.specs.KeptLaws.{lent_bits-keep}
use Rattle.bitvec_view_tests.proofs.kept.fill_range.Goals as goal

pub returns : goal.returns
returns g c =
    let whole = c.from_slice_mut-view.ensures.whole in
    let start = whole.start in
    let len = whole.len in
    let order = c.requires.range.0 in
    let bound = c.requires.range.1 in
    rw (c.into_slice.ensures.elements, sym whole.elements) (
    lent_bits-keep c.from_slice_mut-view.result c.args.range.start c.args.range.end _ _ _ (width_some _ g.met.T.BitStore.width_law) order (omega arith) (omega arith) (omega arith))
