use Rattle.std.proofs.Common.{◌∙◌, sym}
use Rattle.bitvec_store.specs.WidthLaws.{width_some}
use Rattle.bitvec_words.specs.FieldLaws.{part-all, part-stored}
use Rattle.bitvec_words.proofs.part.store_part.Goals as goal

pub returns-then-len-BITS-clause-writes : goal.returns-then-len-BITS-clause-writes
returns-then-len-BITS-clause-writes g c =
    rw c.store.ensures.numbers
    (part-all _ (width_some _ g.met.C.Elem.BitStore.width_law) c.requires (sym c.len.ensures ∙ c.if-len-BITS.true ∙ c.BITS.ensures))

pub returns-clause-writes : goal.returns-clause-writes
returns-clause-writes g c =
    let merged = rw c.load-old.ensures.value at c.merged-new.ensures in
    rw (c.store-2.ensures.numbers, c.load-old.ensures.numbers)
    (part-stored _ _ _ (width_some _ g.met.C.Elem.BitStore.width_law) c.requires merged)
