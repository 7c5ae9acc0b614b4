use Rattle.std.proofs.Common.{◌∙◌, refl, rules}
use Rattle.std.specs.Prelude.{reverse}
use Rattle.std.proofs.lemmas.List.{length-reverse}
use Rattle.bitvec_base.specs.MemoryLaws.{length-element_bits}
use Rattle.bitvec_base.specs.WritesLaws.{length-list}
use Rattle.bitvec_within.proofs.FewLemmas.{few-edited, reversed-word}
use Rattle.bitvec_within.proofs.reversing.reverse_few.Goals as goal

pub returns : goal.returns
returns g c =
    let long = length-list g.W.BitOrder.at c.requires.window in
    let moved = rw c.reversed-word.ensures at c.moved-mirrored.ensures ∙ reversed-word _ c.args.window.len (length-element_bits 64 _ _) c.requires.few refl in
    let done = few-edited reverse c.requires.window (rw c.new.ensures.numbers at c.load_parts.ensures.value) moved (length-reverse _ ∙ long) (rw c.new-2.ensures.numbers at c.store_parts.ensures.writes) in
    record { writes = record { bits = search (rules, done.bits); long = done.long; elements = search (rules, done.elements) } }
