use Rattle.std.proofs.Common.{◌∙◌, arith, rules}
use Rattle.bitvec_base.specs.LengthLaws.{length-shifted_end}
use Rattle.bitvec_base.specs.Lists.{shifted_end}
use Rattle.bitvec_base.specs.MemoryLaws.{length-element_bits}
use Rattle.bitvec_base.specs.WritesLaws.{length-list}
use Rattle.bitvec_within.proofs.FewLemmas.{few-edited, shifted-end_word}
use Rattle.bitvec_within.proofs.shifting.shift_end_few.Goals as goal

pub returns : goal.returns
returns g c =
    let long = length-list g.W.BitOrder.at c.requires.window in
    let moved = c.moved-shifted.ensures ∙ shifted-end_word 64 _ _ c.args.by (length-element_bits 64 _ _) c.requires.bound c.requires.few in
    let done = few-edited (shifted_end c.args.by) c.requires.window (rw c.new.ensures.numbers at c.load_parts-word.ensures.value) moved (length-shifted_end _ _ (omega arith) ∙ long) (rw c.new-2.ensures.numbers at c.store_parts.ensures.writes) in
    record { writes = record { bits = search (rules, done.bits); long = done.long; elements = search (rules, done.elements) } }
