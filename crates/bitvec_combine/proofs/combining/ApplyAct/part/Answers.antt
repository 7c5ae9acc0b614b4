use Rattle.std.proofs.Common.{rules}
use Rattle.bitvec_store.specs.WidthLaws.{width_some}
use Rattle.bitvec_combine.specs.CombineLaws.{combines-part}
use Rattle.bitvec_combine.proofs.combining.ApplyAct.part.Goals as goal

pub returns : goal.returns
returns g c =
    combines-part _ _ _ (width_some _ g.met.C.Elem.BitStore.width_law) c.requires.part c.requires.some (rw c.load-old.ensures.value at c.of_elements-new.ensures)
    (rw c.load-old.ensures.value at c.merged-made.ensures) (rw c.load-old.ensures.numbers at c.store.ensures.numbers) (search rules)
