use Rattle.std.proofs.Common.{◌∙◌, rules}
use Rattle.bitvec_base.specs.LengthLaws.{length-rotated_left}
use Rattle.bitvec_base.specs.Lists.{rotated_left}
use Rattle.bitvec_base.specs.WritesLaws.{length-list}
use Rattle.bitvec_within.proofs.FewLemmas.{few-edited}
use Rattle.bitvec_within.proofs.rotating.rotate_few.Goals as goal

pub returns : goal.returns
returns g c =
    let long = length-list g.W.BitOrder.at c.requires.window in
    let done = few-edited (rotated_left c.args.by) c.requires.window (rw c.new.ensures.numbers at c.load_parts-word.ensures.value) c.rotated_word-rotated.ensures (length-rotated_left c.args.by _ ∙ long) (rw c.new-2.ensures.numbers at c.store_parts.ensures.writes) in
    record { writes = record { bits = search (rules, done.bits); long = done.long; elements = search (rules, done.elements) } }
