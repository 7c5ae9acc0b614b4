use Rattle.bitvec_store.specs.WidthLaws.{width_some}
use Rattle.bitvec_elements.proofs.ElementLemmas.{elements-copied}
use Rattle.bitvec_elements.proofs.copying_elements.copy_whole_in.Goals as goal

pub returns : goal.returns
returns g c = record {
  writes = rw (c.element-first.ensures, c.elements_of-count.ensures) (elements-copied g.T.BitStore.value _ _ (width_some _ g.met.T.BitStore.width_law) c.requires.span c.requires.edge c.requires.right_edge c.requires.whole (rw (c.element-source.ensures, c.elements_of-count.ensures) at c.copy_from_slice.ensures.after));
}
