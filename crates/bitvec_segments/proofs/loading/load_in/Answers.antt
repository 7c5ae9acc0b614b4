use Rattle.std.proofs.Common.{arith, ◌∙◌}
use Rattle.bitvec_words.specs.WholeLaws.{HasWindow-part}
use Rattle.bitvec_segments.proofs.WalkLemmas.{Begins-next, Loaded-all, Loaded-next, first-part, none-left, parts_kept, some-left, turn}
use Rattle.bitvec_segments.proofs.loading.load_in.Goals as goal

pub part_number-requires : goal.part_number-requires
part_number-requires g c =
    let inv = c.loop-left.invariant in
    let first = first-part g.met.C.Elem.BitStore.width_law (some-left inv.has inv.left c.loop-left-test.true) inv.has c.part_at-part.ensures in
    record { part = rw inv.reads.numbers first.0; some = first.1 }

pub overflow_shl-number : goal.overflow_shl-number
overflow_shl-number g c =
    let inv = c.loop-left.invariant in
    let turn = turn c.loop-left.rest g.met.C.Elem.BitStore.width_law (some-left inv.has inv.left c.loop-left-test.true) c.part_at-part.ensures c.len-len.ensures in
    omega arith

pub overflow_add-number : goal.overflow_add-number
overflow_add-number g c =
    let inv = c.loop-left.invariant in
    let turn = turn c.loop-left.rest g.met.C.Elem.BitStore.width_law (some-left inv.has inv.left c.loop-left-test.true) c.part_at-part.ensures c.len-len.ensures in
    let number = rw (c.part_at-part.ensures, inv.reads.numbers) at c.part_number.ensures.value in
    let next = Loaded-next _ _ g.O.BitOrder.at _ c.requires.number turn inv.has inv.fits number inv.value in
    rw (c.lower_bits-below.ensures.bits, (parts_kept next.1).1) (record { fits = next.1 })

pub loop-left-preserved : goal.loop-left-preserved
loop-left-preserved g c =
    let inv = c.loop-left.invariant in
    let turn = turn c.loop-left.rest g.met.C.Elem.BitStore.width_law (some-left inv.has inv.left c.loop-left-test.true) c.part_at-part.ensures c.len-len.ensures in
    let number = rw (c.part_at-part.ensures, inv.reads.numbers) at c.part_number.ensures.value in
    let next = Loaded-next _ _ g.O.BitOrder.at _ c.requires.number turn inv.has inv.fits number inv.value in
    let read = c.part_number.ensures.reads in
    let before = inv.reads in
    rw c.after-rest.ensures (record {
      has = HasWindow-part _ inv.has (omega arith) (omega arith);
      fits = omega arith;
      left = omega arith;
      fewer = omega arith;
      place = Begins-next turn (inv.place c.loop-left-test.true).0 (omega arith);
      value = rw (c.lower_bits-below.ensures.bits, (parts_kept next.1).1) next.0;
      reads = record { numbers = read.numbers ∙ before.numbers; borrow = read.borrow ∙ before.borrow; loads = omega arith; stores = read.stores ∙ before.stores };
    })

pub returns-clause-value : goal.returns-clause-value
returns-clause-value g c =
    let inv = c.loop-left.invariant in
    Loaded-all _ _ _ _ c.requires.number inv.has (none-left inv.has inv.left c.loop-left-test.false) inv.value
