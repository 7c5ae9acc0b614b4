use Rattle.std.proofs.Common.{◌∙◌, arith, ap, sym}
use Rattle.bitvec_base.specs.Lists.{first_place}
use Rattle.bitvec_base.specs.SliceLaws.{range-from_start}
use Rattle.bitvec_base.specs.WritesLaws.{length-list}
use Rattle.bitvec_words.specs.MovedLaws.{take-word}
use Rattle.bitvec_elements.proofs.scanning.find_first_few.Goals as goal

pub returns : goal.returns
returns g c =
    let n = c.args.window.len in
    let held = rw c.new.ensures.numbers at c.load_parts-word.ensures.value in
    c.first_in_element.ensures
    ∙ ap (first_place c.args.want) (range-from_start _ n n (omega arith) ∙ take-word 64 _ held (sym (length-list g.W.BitOrder.at c.requires.window)))
