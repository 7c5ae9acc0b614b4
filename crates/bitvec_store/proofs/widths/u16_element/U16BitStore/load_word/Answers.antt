use Rattle.std.proofs.Common.{refl, w16}
use Rattle.bitvec_store.proofs.VectorLemmas.{elements-loaded}
use Rattle.bitvec_store.proofs.widths.u16_element.U16BitStore.load_word.Goals as goal

pub returns-clause-digits : goal.returns-clause-digits
returns-clause-digits c = elements-loaded w16 4 c.args.elements.now c.type_inv.elements c.requires refl
