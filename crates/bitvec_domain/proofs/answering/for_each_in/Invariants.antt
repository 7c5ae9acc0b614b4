use Rattle.std.proofs.Common.{◌≡◌, false, length, map, slice_index_or}
use Rattle.std.specs.Fn.{Called, Takes}
use Rattle.bitvec_base.specs.Memory.{list_in}
use Rattle.bitvec_cells.specs.Accessors.{exclusive_borrow, exclusive_numbers}
use Rattle.bitvec_domain.proofs.Answered.{Answered, MayGoOn}
use Rattle.bitvec_domain.proofs.answering.for_each_in.Given as goal

abbrev pub invariant-loop-index : goal.invariant-loop-index
invariant-loop-index g l =
    let old = map g.T.BitStore.value l.fn.elements in
    let list = list_in g.T.BitStore.BITS g.O.BitOrder.at old l.window in
    record {
      answered : Answered (λ p i bit q. Called g.F.FnMut p (i, (slice_index_or list i false, tt)) bit q) l.fn.f l.f g.T.BitStore.BITS g.O.BitOrder.at old (exclusive_numbers g.T.BitStore.value l.accessor) l.window l.index;
      allowed : MayGoOn (λ p i bit q. Called g.F.FnMut p (i, (slice_index_or list i false, tt)) bit q) (λ p i. Takes g.F.FnMut p (i, (slice_index_or list i false, tt))) (length list) l.index l.f;
      borrow : exclusive_borrow l.accessor ≡ exclusive_borrow l.initial.accessor;
    }
