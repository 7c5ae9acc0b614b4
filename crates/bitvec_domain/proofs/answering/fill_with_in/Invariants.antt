use Rattle.std.proofs.Common.{◌≡◌, map}
use Rattle.std.specs.Fn.{Called, Takes}
use Rattle.bitvec_cells.specs.Accessors.{exclusive_borrow, exclusive_numbers}
use Rattle.bitvec_domain.proofs.Answered.{Answered, MayGoOn}
use Rattle.bitvec_domain.proofs.answering.fill_with_in.Given as goal

abbrev pub invariant-loop-index : goal.invariant-loop-index
invariant-loop-index g l = record {
  answered : Answered (λ p i bit q. Called g.F.FnMut p (i, tt) bit q) l.fn.f l.f g.T.BitStore.BITS g.O.BitOrder.at (map g.T.BitStore.value l.fn.elements) (exclusive_numbers g.T.BitStore.value l.accessor) l.window l.index;
  allowed : MayGoOn (λ p i bit q. Called g.F.FnMut p (i, tt) bit q) (λ p i. Takes g.F.FnMut p (i, tt)) l.window.len l.index l.f;
  borrow : exclusive_borrow l.accessor ≡ exclusive_borrow l.initial.accessor;
}
