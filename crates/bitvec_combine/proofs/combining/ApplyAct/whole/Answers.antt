use Rattle.std.proofs.Common.{rules}
use Rattle.bitvec_store.specs.WidthLaws.{width_some}
use Rattle.bitvec_combine.specs.CombineLaws.{combines-whole}
use Rattle.bitvec_combine.proofs.combining.ApplyAct.whole.Goals as goal

pub returns : goal.returns
returns g c =
    combines-whole _ _ (width_some _ g.met.C.Elem.BitStore.width_law) c.requires (rw c.load-element.ensures.value at c.of_elements.ensures)
    (rw c.load-element.ensures.numbers at c.store.ensures.numbers) (search rules)
