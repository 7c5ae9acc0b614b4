use Rattle.std.proofs.Common.{refl, w32}
use Rattle.bitvec_store.proofs.VectorLemmas.{elements-loaded}
use Rattle.bitvec_store.proofs.widths.u32_element.U32BitStore.load_word.Goals as goal

pub returns-clause-digits : goal.returns-clause-digits
returns-clause-digits c = elements-loaded w32 2 c.args.elements.now c.type_inv.elements c.requires refl
