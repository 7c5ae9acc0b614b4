use Rattle.std.proofs.Common.{ℕ, Bool, ◌≡◌, ◌≤◌, ◌+◌, ◌*◌, ◌/◌, ◌∙◌, arith, nat_eq, not}
use Rattle.std.proofs.Math.Nat.{le_refl}
use Rattle.bitvec_words.specs.MovedPlaceLaws.{from-word}
use Rattle.bitvec_move.proofs.CostSums.{Costs-held, Costs-word}
use Rattle.bitvec_move.proofs.WithinLaws.{CopiesSome-none, CopiesSome-part}
use Rattle.bitvec_move.proofs.WordMoveLemmas.{CopiesSome-all, word-carried, word-joined, word-left}
use Rattle.bitvec_move.proofs.moving_words.shift_words.Goals as goal

-- ---- places, as plain numbers: of n bytes, k are moved

next-sum : (s p a : ℕ) → s + p + a ≡ s + (p + a)
next-sum s p a = omega arith

pub overflow_add-moved : goal.overflow_add-moved
overflow_add-moved g c = record { fits = from-word _ _ _ _ g.met.C.Elem.BitStore.width_law c.requires.skipped.span.beside c.requires.skipped.inside (omega arith) }

pub overflow_add-moved-2 : goal.overflow_add-moved-2
overflow_add-moved-2 g c = record { fits = from-word _ _ _ _ g.met.C.Elem.BitStore.width_law c.requires.skipped.span.beside c.requires.skipped.inside c.read_place-from.ensures.fits }

pub overflow_add-moved-in-loop-step : goal.overflow_add-moved-in-loop-step
overflow_add-moved-in-loop-step g c = record { fits = from-word _ _ _ _ g.met.C.Elem.BitStore.width_law c.requires.skipped.span.beside c.requires.skipped.inside (omega arith) }

-- ---- each word

pub loop-step-init : goal.loop-step-init
loop-step-init g c =
    let later : Bool = not (nat_eq g.row.LATER 0) in
    let bytes = c.requires.bytes in let reads = c.load_skipped-held.ensures.reads in
    let held = rw (bytes, c.load.ensures.value, reads.numbers, c.carried_place-to.ensures.to, c.read_place-from.ensures.place) at c.placed-last.ensures in
    record {
      writes = rw (c.load.ensures.numbers, reads.numbers) (CopiesSome-none later _ _ _ _ _ c.requires.skipped.span.window);
      carried = rw bytes held;
      cost = Costs-held g.C.CellsRead _ _ _ reads c.load.ensures.borrow c.load.ensures.loads c.load.ensures.stores;
    }

pub loop-step-preserved : goal.loop-step-preserved
loop-step-preserved g c =
    let later : Bool = not (nat_eq g.row.LATER 0) in
    let at = g.O.BitOrder.at in
    let old = g.C.CellsRead.numbers c.args.cells.now in
    let now = g.C.CellsRead.numbers c.loop-step.cells in
    let first = c.args.moved.first in let source = c.args.moved.source in let skip = c.args.moved.skip in let count = c.args.moved.count in
    let k : ℕ = c.loop-step.step * 8 in
    let bytes = c.requires.bytes in let inv = c.loop-step.invariant in
    let skipped = rw bytes at c.requires.skipped in
    let before = rw bytes at inv.writes in
    let carried = rw bytes at inv.carried in
    let places = c.carried_place-to.ensures in let place = c.word_place-place.ensures.place in
    let fits : k + 8 ≤ count = omega arith in
    let done : k + 8 ≡ (c.loop-step.step + 1) * 8 = omega arith in
    let kept = word-left later at now k c.requires.towards skipped fits before in
    let word = rw (bytes, places.ahead, place, next-sum source, kept) at c.load_elements-next.ensures.value in
    let joined = rw places.to at c.joined-word.ensures ∙ word-joined later at k c.loop-step.last c.load_elements-next.result skipped fits carried word c.in_order-low.ensures in
    let stored = rw (bytes, place, c.load_elements-next.ensures.reads.numbers) at c.store_elements.ensures.writes in
    record {
      writes = rw bytes (rw done at (CopiesSome-part later first source skip count k (k + 8) 8 skipped.span (omega arith) (le_refl (k + 8)) (omega arith) fits before stored joined));
      carried = rw (bytes, word, ← done) (word-carried later at k skipped fits);
      cost = Costs-word g.C.CellsRead _ _ _ _ c.loop-step.step inv.cost (rw bytes at c.load_elements-next.ensures.reads) (rw bytes at c.store_elements.ensures.cost);
    }

-- ---- the last word

pub returns-clause-writes : goal.returns-clause-writes
returns-clause-writes g c =
    let later : Bool = not (nat_eq g.row.LATER 0) in
    let at = g.O.BitOrder.at in
    let old = g.C.CellsRead.numbers c.args.cells.now in
    let now = g.C.CellsRead.numbers c.loop-step.cells in
    let moved = c.args.moved in let bytes = c.requires.bytes in
    let skipped = rw bytes at c.requires.skipped in
    let before = rw bytes at c.loop-step.invariant.writes in
    let all : c.loop-step.step ≡ moved.count / 8 = omega arith in
    let edge = c.word_place-edge.ensures.place in
    let held = rw (bytes, edge) at c.load_skipped-held.ensures.value in
    let stored = rw (bytes, edge) at c.store_elements-2.ensures.writes in
    rw bytes (CopiesSome-all later at old _ moved.first moved.source moved.skip moved.count
    (CopiesSome-part later moved.first moved.source moved.skip moved.count (c.loop-step.step * 8) moved.count 8 skipped.span (omega arith) (omega arith) c.requires.word (le_refl moved.count) before stored held))
