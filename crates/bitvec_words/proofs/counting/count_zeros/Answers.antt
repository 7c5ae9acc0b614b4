use Rattle.std.proofs.Common.{sym}
use Rattle.bitvec_base.specs.CountLaws.{ones_within, zeros_left}
use Rattle.bitvec_base.specs.WritesLaws.{length-list}
use Rattle.bitvec_words.proofs.counting.count_zeros.Goals as goal

pub overflow_sub-result : goal.overflow_sub-result
overflow_sub-result g c = ones_within _ (sym (length-list g.O.BitOrder.at c.requires)) c.count.ensures.value

pub returns-clause-value : goal.returns-clause-value
returns-clause-value g c = zeros_left _ (sym (length-list _ c.requires)) c.count.ensures.value
