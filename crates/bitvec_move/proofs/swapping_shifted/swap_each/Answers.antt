use Rattle.std.proofs.Common.{◌∙◌, ◌+◌, arith, ap, slice_index, ◌≡◌}
use Rattle.bitvec_store.specs.WidthLaws.{width_some}
use Rattle.bitvec_base.specs.Memory.{element_bits}
use Rattle.bitvec_base.specs.MemoryLaws.{length-element_bits}
use Rattle.bitvec_base.specs.Window.{write_at}
use Rattle.bitvec_words.specs.FieldLaws.{Writes-no_element}
use Rattle.bitvec_move.proofs.SwapLaws.{next_element}
use Rattle.bitvec_move.proofs.WaitingLaws.{across-bits, across-element, across-next, across-none, ends-joined, ends-next, ends-start, range-carried}
use Rattle.bitvec_words.specs.WordLaws.{inside-word}
use Rattle.bitvec_words.specs.MovedPlaceLaws.{from-word, next-word}
use Rattle.bitvec_move.proofs.CostSums.{Costs-next, Costs-none}
use Rattle.bitvec_move.proofs.swapping_shifted.swap_each.Goals as goal

pub overflow_add-here : goal.overflow_add-here
overflow_add-here g c = record { fits = inside-word _ _ _ g.met.C.Elem.BitStore.width_law c.requires.span.window c.loop-step-test.true }

pub overflow_add-there : goal.overflow_add-there
overflow_add-there g c = record { fits = from-word _ _ _ _ g.met.C.Elem.BitStore.width_law c.requires.span.beside c.requires.inside c.loop-step.auto.step-end }

pub overflow_add-there-in-loop-step : goal.overflow_add-there-in-loop-step
overflow_add-there-in-loop-step g c = record { fits = next-word _ _ _ _ g.met.C.Elem.BitStore.width_law c.requires.span.beside c.requires.inside c.loop-step-test.true }

pub store-requires : goal.store-requires
store-requires g c = rw c.load-element.ensures.numbers (next_element _ _ _ _ (width_some _ g.met.C.Elem.BitStore.width_law) c.requires.span.window c.loop-step-test.true c.loop-step.invariant.swaps.writes.elements)

pub store-requires-in-loop-step : goal.store-requires-in-loop-step
store-requires-in-loop-step g c =
    let next = across-next _ _ _ _ c.requires c.loop-step-test.true c.loop-step.invariant.swaps.right_writes in
    rw c.load-next.ensures.numbers (omega arith)

pub returns : goal.returns
returns g c =
    let all : c.loop-step.step ≡ c.args.count = omega arith in
    let inv = rw all at c.loop-step.invariant in
    record { swaps = inv.swaps; cost = inv.cost; right_cost = inv.right_cost }

pub loop-step-init : goal.loop-step-init
loop-step-init g c = record {
  swaps = record {
    writes = Writes-no_element _ _ _ _ c.requires.span.window (omega arith);
    right_writes = across-none _ c.requires;
  };
  cost = Costs-none g.C.CellsRead _;
  right_cost = Costs-none g.D.CellsRead _;
  ends = ends-start (length-element_bits _ _ _) c.requires.bound (rw c.bits_from-rest.ensures at c.toward_end-before.ensures);
}

pub load-element-requires : goal.load-element-requires
load-element-requires g c = next_element _ _ _ _ (width_some _ g.met.C.Elem.BitStore.width_law) c.requires.span.window c.loop-step-test.true c.loop-step.invariant.swaps.writes.elements

pub load-next-requires : goal.load-next-requires
load-next-requires g c = across-next _ _ _ _ c.requires c.loop-step-test.true c.loop-step.invariant.swaps.right_writes

pub loop-step-preserved : goal.loop-step-preserved
loop-step-preserved g c =
    let b = g.C.Elem.BitStore.BITS in
    let at = g.O.BitOrder.at in
    let inv = c.loop-step.invariant in
    let some = width_some _ g.met.C.Elem.BitStore.width_law in
    let below = c.requires.bound in let more = c.loop-step-test.true in
    let element = element_bits b at (slice_index (g.C.CellsRead.numbers c.loop-step.left) (c.args.first + c.loop-step.step)) in
    let long = length-element_bits b at (slice_index (g.C.CellsRead.numbers c.loop-step.left) (c.args.first + c.loop-step.step)) in
    let next = element_bits b at (slice_index (g.D.CellsRead.numbers c.loop-step.right) (c.args.source + c.loop-step.step + 1)) in
    let next_long = length-element_bits b at (slice_index (g.D.CellsRead.numbers c.loop-step.right) (c.args.source + c.loop-step.step + 1)) in
    let joined = rw (c.load-next.ensures.value, ← inv.ends.rest) at c.joined.ensures in
    let met = rw (c.bits_from-rest.ensures, c.load-element.ensures.value) at c.joined-in-loop-step.ensures in
    let carried = rw (c.load-element.ensures.value, c.bits_from-rest.ensures) at c.toward_start-carried.ensures in
    let merged = rw (c.load-next.ensures.value, carried) at c.merged-last.ensures in
    let waits = merged ∙ ap (write_at next 0) (range-carried element b c.args.skip long below) in
    record {
      swaps = record {
        writes = rw (c.store.ensures.numbers, c.load-element.ensures.numbers)
            (across-element _ _ _ _ _ some c.requires more joined inv.swaps.writes inv.swaps.right_writes);
        right_writes = rw (c.store-in-loop-step.ensures.numbers, c.load-next.ensures.numbers)
            (across-bits _ c.loop-step.step _ _ _ _ some c.requires more
            (met ∙ ends-joined element (length-element_bits _ _ _) long below inv.ends) waits inv.swaps.writes inv.swaps.right_writes);
      };
      cost = Costs-next g.C.CellsRead inv.cost c.load-element.ensures.borrow c.load-element.ensures.loads c.load-element.ensures.stores c.store.ensures.borrow c.store.ensures.loads c.store.ensures.stores;
      right_cost = Costs-next g.D.CellsRead inv.right_cost c.load-next.ensures.borrow c.load-next.ensures.loads c.load-next.ensures.stores c.store-in-loop-step.ensures.borrow c.store-in-loop-step.ensures.loads c.store-in-loop-step.ensures.stores;
      ends = rw (c.load-element.ensures.value, c.load-next.ensures.value) (ends-next c.args.skip element next long next_long below waits);
    }
