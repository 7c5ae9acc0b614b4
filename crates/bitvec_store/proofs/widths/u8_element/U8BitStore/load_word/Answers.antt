use Rattle.std.proofs.Common.{refl, w8}
use Rattle.bitvec_store.proofs.VectorLemmas.{bytes-loaded}
use Rattle.bitvec_store.proofs.widths.u8_element.U8BitStore.load_word.Goals as goal

pub returns-clause-digits : goal.returns-clause-digits
returns-clause-digits c = bytes-loaded w8 8 c.args.elements.now c.type_inv.elements c.requires refl
