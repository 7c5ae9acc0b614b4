use Rattle.std.proofs.Common.{◌≡◌, ℕ, List, [], get_or, map, string_bytes, Global, subst, sym, arith}
use Rattle.std.proofs.lemmas.Grind.{common_steps}
use Rattle.std.proofs.lemmas.List.{get_or-map}
use Rattle.nesting.specs.Texts.{Mends}
use Rattle.nesting.proofs.PrintLaws.{prints-more, prints-none}
use Rattle.nesting.proofs.work.work.Goals as goal

pub loop-word-init : goal.loop-word-init
loop-word-init g c = prints-none _ _

pub loop-word-preserved : goal.loop-word-preserved
loop-word-preserved g c =
    let words = c.args.words.now in
    let texts : List (List ℕ) = map (string_bytes {Z = Global}) words in
    let i : ℕ = c.loop-word.word-index in
    let item = get_or-map (string_bytes {Z = Global}) words i c.word-item.result [] c.loop-word-test.true in
    let is : get_or texts i [] ≡ c.as_bytes.result.now = grind (arith, common_steps, item) in
    let same : c.in_ok-text.text.items ≡ c.as_slice.result.now = grind (arith, common_steps) in
    let mends = subst (λ (text : List ℕ). Mends text c.in_ok-text.text.items) (sym is) c.in_ok-text.ensures.mended in
    prints-more texts i c.as_slice.result.now _ _ _ c.loop-word.invariant
    (subst (λ (mended : List ℕ). Mends (get_or texts i []) mended) same mends) c.in_ok-print_line.ensures.printed
