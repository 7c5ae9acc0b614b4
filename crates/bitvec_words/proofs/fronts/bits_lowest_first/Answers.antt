use Rattle.std.proofs.Common.{◌∙◌, ap, refl}
use Rattle.bitvec_base.specs.MemoryLaws.{length-element_bits}
use Rattle.bitvec_words.specs.WordLaws.{padded-all}
use Rattle.bitvec_words.specs.ShortWindow.{padded}
use Rattle.bitvec_words.proofs.ScanLemmas.{range-element}
use Rattle.bitvec_words.proofs.fronts.bits_lowest_first.Goals as goal

pub returns : goal.returns
returns g c =
    c.gathered.ensures
    ∙ ap (padded 64) (range-element {b = 64} g.O.BitOrder.at c.args.word {n = 64} refl)
    ∙ padded-all (length-element_bits 64 g.O.BitOrder.at c.args.word)
