use Rattle.std.proofs.Common.{sym}
use Rattle.bitrecord.proofs.Numbers.{read-all}
use Rattle.bitrecord.proofs.encoding.encode.Goals as goal

pub encode_words-requires-clause-values : goal.encode_words-requires-clause-values
encode_words-requires-clause-values g c = c.in_default.ensures.none

pub encode_fields-requires-clause-values : goal.encode_fields-requires-clause-values
encode_fields-requires-clause-values g c = c.in_default.ensures.none

pub returns-then-is_seamless-clause-numbers : goal.returns-then-is_seamless-clause-numbers
returns-then-is_seamless-clause-numbers g c = sym (read-all _ _ _ _ _ _ c.args.values.now c.in_default.ensures.none.count (λ k low. sym (c.encode_words.ensures.numbers k low)))

pub returns-else-is_seamless-clause-numbers : goal.returns-else-is_seamless-clause-numbers
returns-else-is_seamless-clause-numbers g c = sym (read-all _ _ _ _ _ _ c.args.values.now c.in_default.ensures.none.count (λ k low. sym (c.encode_fields.ensures.numbers k low)))
