use Rattle.std.proofs.Common.{◌∷◌, [], map, string_bytes, Global, sym, ap, ◌∙◌, arith}
use Rattle.std.proofs.lemmas.List.{length-map}
use Rattle.bitdo_work.specs.Arguments.{request_of}
use Rattle.bitdo_work.proofs.ArgumentLaws.{six, request_of-other}
use Rattle.bitdo_work.proofs.arguments.Arguments.parse.Goals as goal
use Rattle.bitdo_work.proofs.arguments.Arguments.parse.Goals.{in_default-via-then-args-lt6, in_default-via-else-args-lt6+else-args-lt7}

pub returns-in_default : goal.returns-in_default
returns-in_default c =
    let others = length-map c.args.args.now (string_bytes {Z = Global}) in
    elim c.in_default.branch [
      | in_default-via-then-args-lt6 w ↦ sym (request_of-other _ (λ h. grind (arith, others)))
      | in_default-via-else-args-lt6+else-args-lt7 w ↦ sym (request_of-other _ (λ h. grind (arith, others)))
    ]

pub returns : goal.returns
returns c =
    let words = six c.args.args.now c.width-item.result c.order-item.result c.memory-item.result c.right-item.result c.start-item.result c.len-item.result
    c.in-len6.len_at_least c.in-len6.len_below c.width-item.is c.order-item.is c.memory-item.is c.right-item.is c.start-item.is c.len-item.is in
    c.from_words.ensures ∙ ap request_of ((λ i. c.as_str.ensures.value i ∷ c.as_str-2.ensures.value i ∷ c.as_str-3.ensures.value i ∷ c.as_str-4.ensures.value i
    ∷ c.as_str-5.ensures.value i ∷ c.as_str-6.ensures.value i ∷ []) ∙ ap (map string_bytes) (sym words))
