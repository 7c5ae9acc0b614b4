use Rattle.std.proofs.Common.{ℕ, Bool, ◌≡◌, ◌+◌, ◌∙◌, ap, arith, nat_eq, not, rules, slice_index}
use Rattle.bitvec_base.specs.Memory.{element_bits}
use Rattle.bitvec_store.specs.WidthLaws.{width_some}
use Rattle.bitvec_words.specs.Moves.{waiting_place}
use Rattle.bitvec_move.proofs.SwapLaws.{next_element}
use Rattle.bitvec_move.proofs.WithinLaws.{CopiesSome-kept, CopiesSome-more, CopiesSome-none, list-joined_next, nth-waiting}
use Rattle.bitvec_words.specs.MovedPlaceLaws.{from-inside, from-word}
use Rattle.bitvec_words.specs.WordLaws.{inside-word}
use Rattle.bitvec_move.proofs.moving.shift_carried.Goals as goal

pub overflow_add-first : goal.overflow_add-first
overflow_add-first g c = record { fits = inside-word _ _ _ g.met.C.Elem.BitStore.width_law c.requires.skipped.span.window c.next_place-place.ensures.fits }

pub store-requires : goal.store-requires
store-requires g c =
    let some = width_some _ g.met.C.Elem.BitStore.width_law in
    rw c.load.ensures.numbers (next_element _ _ _ _ some c.requires.skipped.span.window c.next_place-place.ensures.fits c.loop-passed.invariant.writes.elements)

pub overflow_add-source : goal.overflow_add-source
overflow_add-source g c = record { fits = from-word _ _ _ _ g.met.C.Elem.BitStore.width_law c.requires.skipped.span.beside c.requires.skipped.inside c.read_place-read.ensures.fits }

pub load-requires : goal.load-requires
load-requires g c = from-inside _ _ _ _ _ c.requires.skipped.span.beside c.requires.skipped.inside c.read_place-read.ensures.fits c.loop-passed.invariant.writes.elements

pub loop-passed-init : goal.loop-passed-init
loop-passed-init g c = record {
  writes = CopiesSome-none (not (nat_eq g.row.LATER 0)) _ _ _ _ _ c.requires.skipped.span.window;
  carried = rw c.of-last.ensures (ap (element_bits g.C.Elem.BitStore.BITS g.O.BitOrder.at) c.requires.waiting);
  cost = search rules;
}

pub loop-passed-preserved : goal.loop-passed-preserved
loop-passed-preserved g c =
    let later : Bool = not (nat_eq g.row.LATER 0) in
    let old = g.C.CellsRead.numbers c.args.cells.now in
    let bits = λ (e : ℕ). element_bits g.C.Elem.BitStore.BITS g.O.BitOrder.at (slice_index old e) in
    let inv = c.loop-passed.invariant in let skipped = c.requires.skipped in let more = c.loop-passed-test.true in
    let some = width_some _ g.met.C.Elem.BitStore.width_law in
    let passed = c.loop-passed.passed in
    let kept = CopiesSome-kept later _ _ _ _ _ (waiting_place later (passed + 1) c.args.count) c.requires.towards skipped.span.window more (nth-waiting later passed c.args.count) (omega arith) inv.writes in
    let read : element_bits g.C.Elem.BitStore.BITS g.O.BitOrder.at (g.K.Carried.value c.of-next.result) ≡ bits (c.args.source + waiting_place later (passed + 1) c.args.count) =
    rw (c.of-next.ensures, c.load.ensures.value, c.read_place-read.ensures.place) kept in
    record {
      writes = rw (c.store.ensures.numbers, c.load.ensures.numbers, c.next_place-place.ensures.place)
          (CopiesSome-more later _ _ _ _ passed _ some skipped.span more
          (c.joined.ensures ∙ list-joined_next later _ passed g.K.Carried.value _ _ skipped more inv.carried read c.in_order-low.ensures)
          inv.writes);
      carried = read;
      cost = search rules;
    }
