use Rattle.std.proofs.Common.{ap, ◌∙◌}
use Rattle.bitvec_base.specs.Lists.{combined, differs}
use Rattle.bitvec_base.specs.Memory.{element_bits}
use Rattle.bitvec_checked.proofs.PairLemmas.{only_first-is}
use Rattle.bitvec_checked.proofs.pairs.Pair.of_words.Goals as goal

pub returns-in-First : goal.returns-in-First
returns-in-First g c =
    rw c.in-First.is (c.of_elements-in-First.ensures ∙ ap (combined differs (element_bits 64 g.O.BitOrder.at c.args.word)) c.of_elements-both.ensures ∙ only_first-is _ _)
