use Rattle.std.proofs.Common.{arith, sym}
use Rattle.std.proofs.lemmas.Grind.{common_steps}
use Rattle.pages.proofs.NumberLaws.{page_of-none, page_of-some}
use Rattle.pages.proofs.work.page_of.Goals as goal

pub returns-in_err-page : goal.returns-in_err-page
returns-in_err-page c =
    let none = page_of-none c.args.word.now c.parse.result c.parse.ensures.value.0 (λ number is. grind (arith, common_steps, is)) in
    grind (arith, common_steps, none)

pub returns-then-page-lt-PAGES : goal.returns-then-page-lt-PAGES
returns-then-page-lt-PAGES c =
    let some = page_of-some c.args.word.now c.parse.result c.in_ok-page.page c.parse.ensures.value.0 (grind (arith, common_steps)) (grind (arith, common_steps)) in
    sym some
