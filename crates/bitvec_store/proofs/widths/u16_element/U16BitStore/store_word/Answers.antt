use Rattle.std.proofs.Common.{◌+◌, ◌^◌, refl, ap, ◌∙◌}
use Rattle.std.specs.Simd.Lanes.{digits_l, number_l}
use Rattle.bitvec_store.proofs.VectorLemmas.{front-stored, rest-stored, word-bytes}
use Rattle.bitvec_store.proofs.widths.u16_element.U16BitStore.store_word.Goals as goal

pub returns-clause-digits : goal.returns-clause-digits
returns-clause-digits c =
    front-stored 4 c.args.elements.now (digits_l (2 ^ 16) 4 (number_l 256 (digits_l 256 8 (c.args.word + 0)))) refl c.requires
    ∙ ap (digits_l (2 ^ 16) 4) (word-bytes c.args.word c.ranges.word.fits)

pub returns-clause-others : goal.returns-clause-others
returns-clause-others c =
    rest-stored 4 c.args.elements.now (digits_l (2 ^ 16) 4 (number_l 256 (digits_l 256 8 (c.args.word + 0)))) refl c.requires
