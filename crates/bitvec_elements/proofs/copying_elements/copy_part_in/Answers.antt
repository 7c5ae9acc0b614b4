use Rattle.std.proofs.Common.{arith, rules}
use Rattle.bitvec_cells.specs.WalkLaws.{Walked-start}
use Rattle.bitvec_store.specs.WidthLaws.{width_some}
use Rattle.bitvec_words.specs.PartWalkLaws.{HasPart-first}
use Rattle.bitvec_elements.proofs.ElementLemmas.{none-copied, part-copied}
use Rattle.bitvec_elements.proofs.copying_elements.copy_part_in.Goals as goal

pub returns-then-to-eq0 : goal.returns-then-to-eq0
returns-then-to-eq0 g c = record { writes = none-copied c.requires.span c.if-to-eq0.true }

pub store_part-requires : goal.store_part-requires
store_part-requires g c =
    rw (c.first_part-part.ensures, c.new-cells.ensures.numbers) (HasPart-first (width_some _ g.met.T.BitStore.width_law) (omega arith) c.requires.span.window (Walked-start _ _))

pub returns : goal.returns
returns g c =
    let wrote = rw c.new-cells.ensures.numbers at c.store_part.ensures.writes in
    let done = part-copied g.T.BitStore.value _ (width_some _ g.met.T.BitStore.width_law) c.requires.span c.if-to-eq0.false c.requires.phases c.requires.part c.first_part-part.ensures (rw c.element.ensures at c.index-right-element.is) wrote in
    record { writes = record { bits = search (rules, done.bits); long = done.long; elements = search (rules, done.elements) } }
