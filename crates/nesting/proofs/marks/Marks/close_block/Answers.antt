use Rattle.std.proofs.Common.{◌≡◌, All, Bool, arith, false}
use Rattle.bitvec.specs.Laws.{found}
use Rattle.bitvec.specs.Owned.{owned}
use Rattle.nesting.proofs.MarkLaws.{none-always, view-block, view-no_block}
use Rattle.nesting.proofs.marks.Marks.close_block.Goals as goal

pub returns-in_err-block-clause-none : goal.returns-in_err-block-clause-none
returns-in_err-block-clause-none c =
    none-always c.from_residual.result (All (λ (mark : Bool). mark ≡ false) c.args.self.now)
    (view-no_block (owned c.self.inside.bits).bits c.args.self.now c.self.view_is (λ k below. grind (arith, found, c.in_err-block.ensures)))

pub returns-clause-block : goal.returns-clause-block
returns-clause-block c =
    rw c.len.ensures.value
    (view-block (owned c.self.inside.bits).bits c.args.self.now c.self.view_is (owned c.truncate.new.self).bits c.in_ok-block.block
    (grind (arith, found, c.in_ok-block.ensures)) (grind (arith, found, c.in_ok-block.ensures)) (λ k behind inside. grind (arith, found, c.in_ok-block.ensures)) c.truncate.ensures.bits)
