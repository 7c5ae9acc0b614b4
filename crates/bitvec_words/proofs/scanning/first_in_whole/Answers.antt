use Rattle.std.proofs.Common.{arith, ◌∙◌, ap}
use Rattle.bitvec_base.specs.Lists.{first_place}
use Rattle.bitvec_words.proofs.ScanLemmas.{range-element}
use Rattle.bitvec_words.proofs.scanning.first_in_whole.Goals as goal

pub first_in_element-requires : goal.first_in_element-requires
first_in_element-requires g c = record { order = omega arith; bound = omega arith }

pub returns : goal.returns
returns g c = c.first_in_element.ensures ∙ ap (first_place c.args.want) (range-element g.O.BitOrder.at _ c.BITS.ensures)
