use Rattle.std.proofs.Common.{◌+◌, refl, ap, ◌∙◌, add-zero}
use Rattle.std.specs.Simd.Lanes.{digits_l}
use Rattle.bitvec_store.proofs.VectorLemmas.{front-stored, rest-stored}
use Rattle.bitvec_store.proofs.widths.u8_element.U8BitStore.store_word.Goals as goal

pub returns-clause-digits : goal.returns-clause-digits
returns-clause-digits c =
    front-stored 8 c.args.elements.now (digits_l 256 8 (c.args.word + 0)) refl c.requires ∙ ap (digits_l 256 8) (add-zero c.args.word)

pub returns-clause-others : goal.returns-clause-others
returns-clause-others c = rest-stored 8 c.args.elements.now (digits_l 256 8 (c.args.word + 0)) refl c.requires
