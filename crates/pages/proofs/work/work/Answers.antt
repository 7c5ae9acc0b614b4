use Rattle.std.proofs.Common.{ℕ, [], map, string_bytes, Global, arith}
use Rattle.std.proofs.lemmas.Grind.{common_steps}
use Rattle.std.proofs.lemmas.List.{get_or-map, length-map}
use Rattle.pages.proofs.WordLaws.{done-fault, done-more, done-none}
use Rattle.pages.proofs.work.work.Goals as goal

pub loop-word-init : goal.loop-word-init
loop-word-init g c = done-none _ _ c.new-pages.ensures

pub loop-word-preserved : goal.loop-word-preserved
loop-word-preserved g c =
    let words = c.args.words.now in
    let i : ℕ = c.loop-word.word-index in
    let item = get_or-map (string_bytes {Z = Global}) words i c.word-item.result [] c.loop-word-test.true in
    let long = length-map words (string_bytes {Z = Global}) in
    done-more (map (string_bytes {Z = Global}) words) i c.as_str.result.now _ _ _ _ c.loop-word.invariant (grind (arith, long)) (grind (arith, common_steps, item)) _ c.in_ok-step.ensures.done c.in_ok-step.ensures.pages

pub returns-in_err-step-clause-fault : goal.returns-in_err-step-clause-fault
returns-in_err-step-clause-fault g c =
    let words = c.args.words.now in
    let i : ℕ = c.loop-word.word-index in
    let item = get_or-map (string_bytes {Z = Global}) words i c.word-item.result [] c.loop-word-test.true in
    let long = length-map words (string_bytes {Z = Global}) in
    let told =
    done-fault (map (string_bytes {Z = Global}) words) i c.as_str.result.now _ _ _ _ c.loop-word.invariant (grind (arith, long)) (grind (arith, common_steps, item)) _ c.in_err-step.ensures.fault in
    grind (arith, common_steps, told)
