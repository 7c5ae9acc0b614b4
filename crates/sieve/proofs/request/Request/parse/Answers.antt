use Rattle.std.proofs.Common.{string_bytes, Global, sym, arith}
use Rattle.std.proofs.lemmas.List.{length-map}
use Rattle.sieve.specs.Requests.{request_of}
use Rattle.sieve.proofs.RequestLaws.{request_of-other, three, two}
use Rattle.sieve.proofs.request.Request.parse.Goals as goal

pub returns-in-len2-clause-value : goal.returns-in-len2-clause-value
unfolding request_of
returns-in-len2-clause-value c =
    let words = two c.args.words.now c.mode-item.result c.below-item.result c.in-len2.len_at_least c.in-len2.len_below c.mode-item.is c.below-item.is in
    rw (words, c.below.ensures.value, c.parse_form.ensures.value, c.as_str.ensures.value, c.as_str-in-len2.ensures.value)

pub returns-in-len3-clause-value : goal.returns-in-len3-clause-value
unfolding request_of
returns-in-len3-clause-value c =
    let words = three c.args.words.now c.mode-item-then-words-lt4.result c.below-item-then-words-lt4.result c.width-item.result
    c.in-len3.len_at_least c.in-len3.len_below c.mode-item-then-words-lt4.is c.below-item-then-words-lt4.is c.width-item.is in
    rw (words, c.below-in-len3.ensures.value, c.parse_wide_form.ensures.value, c.as_str-in-len3.ensures.value, c.as_str-in-len3-2.ensures.value, c.as_str-in-len3-3.ensures.value)

pub returns-in_default-clause-value : goal.returns-in_default-clause-value
returns-in_default-clause-value c =
    let others = length-map c.args.words.now (string_bytes {Z = Global}) in
    sym (request_of-other _ (λ h. grind (arith, others)) (λ h. grind (arith, others)))

pub returns-in_default-2-clause-value : goal.returns-in_default-2-clause-value
returns-in_default-2-clause-value c =
    let others = length-map c.args.words.now (string_bytes {Z = Global}) in
    sym (request_of-other _ (λ h. grind (arith, others)) (λ h. grind (arith, others)))
