use Rattle.std.proofs.Common.{Bool, ◌≡◌, ◌+◌, ◌*◌, ◌∙◌, ap, arith, nat_eq, not, slice_index}
use Rattle.bitvec_base.specs.Memory.{element_bits, list_in}
use Rattle.bitvec_store.specs.WidthLaws.{width_some}
use Rattle.bitvec_words.specs.Moves.{nth_place}
use Rattle.bitvec_move.proofs.CostSums.{Costs-next, Costs-none}
use Rattle.bitvec_move.proofs.WithinLaws.{CopiesSome-kept, CopiesSome-more, CopiesSome-none, list-whole_next, nth-waiting}
use Rattle.bitvec_move.proofs.moving.move_each.Goals as goal

pub loop-passed-init : goal.loop-passed-init
loop-passed-init g c = record {
  writes = CopiesSome-none (not (nat_eq g.row.LATER 0)) _ _ _ _ _ c.requires.span.window;
  cost = Costs-none g.C.CellsRead _;
}

pub loop-passed-preserved : goal.loop-passed-preserved
loop-passed-preserved g c =
    let later : Bool = not (nat_eq g.row.LATER 0) in
    let inv = c.loop-passed.invariant in
    let span = c.requires.span in
    let more = c.loop-passed-test.true in
    let some = width_some _ g.met.C.Elem.BitStore.width_law in
    let kept = CopiesSome-kept later _ _ _ _ _ (nth_place later c.loop-passed.passed c.args.count) c.requires.towards span.window more (omega arith) (nth-waiting later c.loop-passed.passed c.args.count) inv.writes in
    let place : element_bits g.C.Elem.BitStore.BITS g.O.BitOrder.at (slice_index (g.C.CellsRead.numbers c.loop-passed.cells) (c.args.source + c.next_place-place.result)) ≡ list_in g.C.Elem.BitStore.BITS g.O.BitOrder.at (g.C.CellsRead.numbers c.args.cells.now) (record { start = (c.args.source + nth_place later c.loop-passed.passed c.args.count) * g.C.Elem.BitStore.BITS + 0; len = g.C.Elem.BitStore.BITS }) =
    rw c.next_place-place.ensures.place (kept ∙ list-whole_next later _ _ _ _ some span.beside more) in
    record {
      writes = rw (c.store.ensures.numbers, c.load-element.ensures.numbers, c.next_place-place.ensures.place)
          (CopiesSome-more later _ _ _ _ c.loop-passed.passed _ some span more (ap (element_bits g.C.Elem.BitStore.BITS g.O.BitOrder.at) c.load-element.ensures.value ∙ place) inv.writes);
      cost = Costs-next g.C.CellsRead inv.cost c.load-element.ensures.borrow c.load-element.ensures.loads c.load-element.ensures.stores c.store.ensures.borrow c.store.ensures.loads c.store.ensures.stores;
    }
