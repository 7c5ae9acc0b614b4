use Rattle.std.proofs.Common.{◌≡◌, ap, arith, false}
use Rattle.bitvec_store.specs.WidthLaws.{width_some}
use Rattle.bitvec_cells.specs.Cost.{read_loads}
use Rattle.bitvec_cells.specs.CostLaws.{touched_read}
use Rattle.bitvec_passes.proofs.CompareLemmas.{cost-equal, cost-same}
use Rattle.bitvec_words.proofs.CostLemmas.{reads-most}
use Rattle.bitvec_passes.proofs.by_elements.elements_eq.Goals as goal

pub returns-then-has_one_phase-clause-reads : goal.returns-then-has_one_phase-clause-reads
returns-then-has_one_phase-clause-reads g c =
    let most = touched_read g.C.Elem.BitStore.BITS false c.args.left_window.start c.args.left_window.len (width_some _ g.met.C.Elem.BitStore.width_law) in
    reads-most c.equal_unshifted.ensures.reads (omega (arith, cost-same g.C.Elem.BitStore.BITS c.args.left_window.len c.args.right_window.len (omega arith)))

pub returns-then-has_one_phase-clause-right : goal.returns-then-has_one_phase-clause-right
returns-then-has_one_phase-clause-right g c =
    let b = g.C.Elem.BitStore.BITS in
    let most = touched_read b false c.args.right_window.start c.args.right_window.len (width_some _ g.met.C.Elem.BitStore.width_law) in
    let same : c.args.left_window.len ≡ c.args.right_window.len = omega arith in
    reads-most c.equal_unshifted.ensures.right (omega (arith, cost-same b _ _ same, ap (read_loads b false) same))

pub returns-else-len-gt0-clause-reads : goal.returns-else-len-gt0-clause-reads
returns-else-len-gt0-clause-reads g c = reads-most c.bits_eq.ensures.reads (cost-equal _ _ _)

pub returns-else-len-gt0-clause-right : goal.returns-else-len-gt0-clause-right
returns-else-len-gt0-clause-right g c = reads-most c.bits_eq.ensures.right (cost-equal _ _ _)
