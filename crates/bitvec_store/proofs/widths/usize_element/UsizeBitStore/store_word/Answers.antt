use Rattle.bitvec_store.proofs.VectorLemmas.{element-stored}
use Rattle.bitvec_store.proofs.widths.usize_element.UsizeBitStore.store_word.Goals as goal

pub returns-clause-digits : goal.returns-clause-digits
returns-clause-digits c = element-stored c.args.elements.now c.args.word c.requires c.ranges.word.fits
