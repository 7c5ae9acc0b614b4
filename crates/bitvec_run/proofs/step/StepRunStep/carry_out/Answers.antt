use Rattle.std.proofs.Common.{arith, refl, sym, ◌∙◌, Some}
use Rattle.bitvec_base.specs.Memory.{list_in}
use Rattle.bitvec_base.specs.WritesLaws.{length-list}
use Rattle.bitvec_commands.specs.FollowsLaws.{Answers-follow, Follows-range}
use Rattle.bitvec_run.specs.RunsLaws.{outcome-is, step-does}
use Rattle.bitvec_run.specs.Runs.{step_row}
use Rattle.bitvec_run.proofs.step.StepRunStep.carry_out.Goals as goal

pub returns-in-Some : goal.returns-in-Some
returns-in-Some g c =
    let right = list_in g.C.Elem.BitStore.BITS g.O.BitOrder.at (g.D.CellsRead.numbers c.args.right.now) c.args.source in
    let refusal = sym (c.step_refusal.ensures.refusal right (length-list _ c.requires.right_window)) ∙ c.in-Some.is in
    rw (outcome-is (step_row right c.args.window.len c.args.self) (Some c.in-Some.refusal) refusal) (record {
      left = Answers-follow c.requires.window (record { reply = refl; list = refl; reads = record { numbers = refl; borrow = refl; loads = omega arith; stores = refl } });
      right = record { numbers = refl; borrow = refl; loads = omega arith; stores = refl };
    })

pub returns-in-None : goal.returns-in-None
returns-in-None g c =
    let right = list_in g.C.Elem.BitStore.BITS g.O.BitOrder.at (g.D.CellsRead.numbers c.args.right.now) c.args.source in
    let refusal = sym (c.step_refusal.ensures.refusal right (length-list _ c.requires.right_window)) ∙ c.in-None.is in
    let fits = c.in-None.ensures.fits in
    let did = rw c.range-target.ensures at c.carry_out.ensures in
    rw (step-does right c.args.window.len c.args.self refusal)
    record {
      left = Follows-range c.args.self.from c.args.self.to c.requires.window fits.order fits.bound did.left;
      right = did.right;
    }
