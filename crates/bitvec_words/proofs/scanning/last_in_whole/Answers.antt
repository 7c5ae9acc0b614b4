use Rattle.std.proofs.Common.{arith, ◌∙◌, ap}
use Rattle.bitvec_base.specs.Lists.{last_place}
use Rattle.bitvec_words.proofs.ScanLemmas.{range-element}
use Rattle.bitvec_words.proofs.scanning.last_in_whole.Goals as goal

pub last_in_element-requires : goal.last_in_element-requires
last_in_element-requires g c = record { order = omega arith; bound = omega arith }

pub returns : goal.returns
returns g c = c.last_in_element.ensures ∙ ap (last_place c.args.want) (range-element g.O.BitOrder.at _ c.BITS.ensures)
