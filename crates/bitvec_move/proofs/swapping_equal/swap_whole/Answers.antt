use Rattle.std.proofs.Common.{arith}
use Rattle.bitvec_store.specs.WidthLaws.{width_some}
use Rattle.bitvec_words.specs.FieldLaws.{Writes-no_element}
use Rattle.bitvec_words.specs.WordLaws.{inside-word}
use Rattle.bitvec_move.proofs.CostSums.{Costs-next, Costs-none}
use Rattle.bitvec_move.proofs.SwapLaws.{Writes-exchanged_element, next_element}
use Rattle.bitvec_move.proofs.swapping_equal.swap_whole.Goals as goal

pub overflow_add-here : goal.overflow_add-here
overflow_add-here g c = record { fits = inside-word _ _ _ g.met.C.Elem.BitStore.width_law c.requires.window c.loop-step-test.true }

pub overflow_add-there : goal.overflow_add-there
overflow_add-there g c = record { fits = inside-word _ _ _ g.met.C.Elem.BitStore.width_law c.requires.beside c.loop-step-test.true }

pub load-element-requires : goal.load-element-requires
load-element-requires g c = next_element _ _ _ _ (width_some _ g.met.C.Elem.BitStore.width_law) c.requires.window c.loop-step-test.true c.loop-step.invariant.swaps.writes.elements

pub load-other-requires : goal.load-other-requires
load-other-requires g c = next_element _ _ _ _ (width_some _ g.met.C.Elem.BitStore.width_law) c.requires.beside c.loop-step-test.true c.loop-step.invariant.swaps.right_writes.elements

pub loop-step-init : goal.loop-step-init
loop-step-init g c = record {
  swaps = record {
    writes = Writes-no_element _ _ _ _ c.requires.window (omega arith);
    right_writes = Writes-no_element _ _ _ _ c.requires.beside (omega arith);
  };
  cost = Costs-none g.C.CellsRead _;
  right_cost = Costs-none g.D.CellsRead _;
}

pub loop-step-preserved : goal.loop-step-preserved
loop-step-preserved g c =
    let inv = c.loop-step.invariant in
    let done = inv.swaps in
    let some = width_some _ g.met.C.Elem.BitStore.width_law in
    let more = c.loop-step-test.true in
    record {
      swaps = record {
        writes = rw (c.store.ensures.numbers, c.load-element.ensures.numbers, c.load-other.ensures.value)
            (Writes-exchanged_element _ _ _ _ some c.requires.window c.requires.beside more done.writes done.right_writes);
        right_writes = rw (c.store-in-loop-step.ensures.numbers, c.load-other.ensures.numbers, c.load-element.ensures.value)
            (Writes-exchanged_element _ _ _ _ some c.requires.beside c.requires.window more done.right_writes done.writes);
      };
      cost = Costs-next g.C.CellsRead inv.cost c.load-element.ensures.borrow c.load-element.ensures.loads c.load-element.ensures.stores c.store.ensures.borrow c.store.ensures.loads c.store.ensures.stores;
      right_cost = Costs-next g.D.CellsRead inv.right_cost c.load-other.ensures.borrow c.load-other.ensures.loads c.load-other.ensures.stores c.store-in-loop-step.ensures.borrow c.store-in-loop-step.ensures.loads c.store-in-loop-step.ensures.stores;
    }
