use Rattle.std.proofs.Common.{refl}
use Rattle.bitvec_base.specs.declared.part.Part.{Part}
use Rattle.bitvec_base.specs.Parts.{HasPart}
use Rattle.bitvec_store.specs.WidthLaws.{width_some}
use Rattle.bitvec_move.proofs.SwapLaws.{Writes-exchanged_part}
use Rattle.bitvec_move.proofs.swapping_equal.swap_part.Goals as goal

pub returns-clause-swaps : goal.returns-clause-swaps
returns-clause-swaps g c =
    let some = width_some _ g.met.C.Elem.BitStore.width_law in
    let part = c.args.part in
    let its : Part = record part { element = c.args.source } in
    let has = c.requires.part in
    let its_has : HasPart g.C.Elem.BitStore.BITS (g.D.CellsRead.numbers c.args.right.now) its = record { element = c.requires.source; order = has.order; bound = has.bound } in
    let merged = rw c.load-element.ensures.value at c.merged-new.ensures in
    let its_merged = rw c.load-other.ensures.value at c.merged-right_new.ensures in
    record {
      writes = rw (c.store.ensures.numbers, c.load-element.ensures.numbers) (Writes-exchanged_part _ some has its_has refl refl c.load-other.ensures.value merged);
      right_writes = rw (c.store-2.ensures.numbers, c.load-other.ensures.numbers) (Writes-exchanged_part _ some its_has has refl refl c.load-element.ensures.value its_merged);
    }
