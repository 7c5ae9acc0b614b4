use Rattle.std.proofs.Common.{◌≡◌, ℕ, ◌+◌, ◌-◌, ◌%◌, ◌<◌, ◌≤◌, Bool, List, length, take, slice_index, slice_range, arith, rules, ap, sym, ◌∙◌, refl}
use Rattle.std.proofs.Math.Nat.{le_of_lt}
use Rattle.std.proofs.lemmas.Nat.{mod_below}
use Rattle.bitvec_base.specs.Memory.{element_bits}
use Rattle.bitvec_base.specs.MemoryLaws.{length-element_bits}
use Rattle.bitvec_base.specs.WritesLaws.{Writes-is}
use Rattle.bitvec_store.specs.WidthLaws.{width_some}
use Rattle.bitvec_words.specs.FieldLaws.{list-part, part-stored, range-shifted}
use Rattle.bitvec_words.specs.TouchedLaws.{next-inside, touched-one, touched-two}
use Rattle.bitvec_words.specs.WordLaws.{fits-word}
use Rattle.bitvec_move.proofs.WaitingLaws.{range-moved, range-moved_across, waiting-across, waiting-beyond, waiting-front, waiting-inside}
use Rattle.bitvec_move.proofs.swapping_shifted.swap_waiting.Goals as goal

pub overflow_add-index : goal.overflow_add-index
overflow_add-index g c =
    let next = next-inside g.C.Elem.BitStore.BITS _ _ c.requires.beside (omega arith) in
    record { fits = rw c.element-index.ensures (fits-word _ _ _ _ g.met.C.Elem.BitStore.width_law c.requires.beside (le_of_lt next)) }

pub load-next-requires : goal.load-next-requires
load-next-requires g c = rw c.element-index.ensures (next-inside g.C.Elem.BitStore.BITS _ _ c.requires.beside (omega arith))

pub returns-then-from-room-clause-swaps : goal.returns-then-from-room-clause-swaps
returns-then-from-room-clause-swaps g c =
    let b = g.C.Elem.BitStore.BITS in
    let at = g.O.BitOrder.at in
    let some = width_some _ g.met.C.Elem.BitStore.width_law in
    let fits : c.args.from.start % b + c.args.from.len ≤ b = omega arith in
    let left_merged = rw c.load-element.ensures.value at c.merged.ensures in
    let front = element_bits b at (g.C.Elem.BitStore.value c.toward_start-front.result) in
    let wide = length-element_bits b at (g.C.Elem.BitStore.value c.toward_start-front.result) in
    let inside : c.args.part.to ≤ length front = omega arith in
    let front_is = rw c.phase-skip.ensures at c.toward_start-front.ensures in
    let merged = rw c.phase-skip.ensures at c.merged-then-from-room.ensures in
    let old = element_bits b at (slice_index (g.C.CellsRead.numbers c.args.left.now) c.args.part.element) in
    let long = length-element_bits b at (slice_index (g.C.CellsRead.numbers c.args.left.now) c.args.part.element) in
    let moved = rw c.load-element.ensures.value at c.toward_start-moved.ensures in
    let back = rw (c.phase-skip.ensures, moved) at c.toward_end-back.ensures in
    record {
      writes =
          rw (c.store.ensures.numbers, c.load-element.ensures.numbers)
          (Writes-is
          (part-stored _ _ _ some c.requires.element left_merged)
          (ap (λ (l : List Bool). slice_range l c.args.part.from c.args.part.to) c.toward_end-new.ensures
          ∙ range-shifted front c.args.part.from c.args.from.len c.args.part.to c.requires.lengths inside
          ∙ ap (take c.args.from.len) front_is
          ∙ waiting-front _ _ some c.requires.beside c.requires.some fits));
      right_writes =
          Writes-is
          (waiting-inside _ _ _ some c.requires.beside c.requires.some refl fits merged)
          (ap (λ (l : List Bool). slice_range l (c.args.from.start % b) (c.args.from.start % b + c.args.from.len)) back
          ∙ range-moved old c.args.part.from (c.args.from.start % b) c.args.from.len (c.args.from.start % b + c.args.from.len) c.args.part.to refl c.requires.lengths (omega arith) (omega arith)
          ∙ sym (list-part _ c.requires.element));
    }

pub returns-then-from-room-clause-right_cost : goal.returns-then-from-room-clause-right_cost
returns-then-from-room-clause-right_cost g c =
    let one = touched-one g.C.Elem.BitStore.BITS c.args.from.start c.args.from.len (width_some _ g.met.C.Elem.BitStore.width_law) c.requires.some (omega arith) in
    record { borrow = refl; loads = omega arith; stores = omega arith }

pub returns-clause-swaps : goal.returns-clause-swaps
returns-clause-swaps g c =
    let b = g.C.Elem.BitStore.BITS in
    let at = g.O.BitOrder.at in
    let some = width_some _ g.met.C.Elem.BitStore.width_law in
    let skip = c.phase-skip.ensures in let room = c.bits_from-room.ensures in
    let merged = rw c.load-element.ensures.value at c.merged-2.ensures in
    let front = element_bits b at (g.C.Elem.BitStore.value c.joined-front.result) in
    let wide = length-element_bits b at (g.C.Elem.BitStore.value c.joined-front.result) in
    let bound = c.requires.element.bound in let lengths = c.requires.lengths in
    let inside : c.args.part.to ≤ length front = omega arith in
    let joined = rw (c.load-next.ensures.value, c.element-index.ensures, skip) at c.joined-front.ensures in
    let head = mod_below c.args.from.start b some in
    let over : b < c.args.from.start % b + c.args.from.len = omega arith in
    let m : ℕ = c.args.from.len - (b - c.args.from.start % b) in
    let rest : b + m ≡ c.args.from.start % b + c.args.from.len = omega arith in
    let end : c.args.from.start % b + (b - c.args.from.start % b) ≡ b = omega arith in
    let old = element_bits b at (slice_index (g.C.CellsRead.numbers c.args.left.now) c.args.part.element) in
    let long = length-element_bits b at (slice_index (g.C.CellsRead.numbers c.args.left.now) c.args.part.element) in
    let moved = rw c.load-element.ensures.value at c.toward_start-moved.ensures in
    let back = rw (skip, moved) at c.toward_end-back-2.ensures in
    let carried = rw (room, skip, moved) at c.toward_start-carried.ensures in
    let stored = rw (room, skip, end) at c.merged-3.ensures in
    let waits = rw (c.load-next.ensures.value, c.element-index.ensures, room, skip) at c.merged-4.ensures in
    record {
      writes =
          rw (c.store-2.ensures.numbers, c.load-element.ensures.numbers)
          (Writes-is
          (part-stored _ _ _ some c.requires.element merged)
          (ap (λ (l : List Bool). slice_range l c.args.part.from c.args.part.to) c.toward_end-new-2.ensures
          ∙ range-shifted front c.args.part.from c.args.from.len c.args.part.to c.requires.lengths inside
          ∙ ap (take c.args.from.len) joined
          ∙ waiting-across _ _ some c.requires.beside c.requires.some (omega arith) over));
      right_writes =
          rw (c.store-3.ensures.numbers, c.load-next.ensures.numbers, c.element-index.ensures)
          (Writes-is
          (waiting-beyond m _ _ _ _ _ some c.requires.beside rest (omega arith) over stored waits)
          (rw (back, carried)
          (range-moved_across old c.args.part.from (c.args.from.start % b) c.args.from.len m long head rest lengths bound
          ∙ sym (list-part _ c.requires.element))));
    }

pub returns-clause-right_cost : goal.returns-clause-right_cost
returns-clause-right_cost g c =
    let two = touched-two g.C.Elem.BitStore.BITS c.args.from.start c.args.from.len (width_some _ g.met.C.Elem.BitStore.width_law) (omega arith) (omega arith) in
    record { borrow = search rules; loads = omega arith; stores = omega arith }
