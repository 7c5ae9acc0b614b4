use Rattle.std.proofs.Common.{arith, refl, sym}
use Rattle.bitvec_base.specs.Memory.{list_in}
use Rattle.bitvec_commands.specs.FollowsLaws.{Answers-follow, Follows-range}
use Rattle.bitvec_run.proofs.FieldRowsLaws.{is-transfer, plain-is, transfer-does, transfer-refused}
use Rattle.bitvec_run.proofs.field_stepping.FieldStepRunStep.carry_out.Goals as goal

pub returns-in-Plain : goal.returns-in-Plain
returns-in-Plain g c = rw (plain-is g.O.WordOrder.HIGH g.C.Elem.BitStore.BITS c.args.window.start _ c.args.window.len c.args.self c.in-Plain.op c.in-Plain.is) c.carry_out.ensures

pub returns-in-Some : goal.returns-in-Some
returns-in-Some g c =
    let right = list_in g.C.Elem.BitStore.BITS g.O.BitOrder.at (g.D.CellsRead.numbers c.args.right.now) c.args.source in
    rw (transfer-refused g.O.WordOrder.HIGH g.C.Elem.BitStore.BITS c.args.window.start right c.args.window.len c.args.self (is-transfer _ c.in_default.not-Plain) c.in-Some.refusal (sym c.in-Some.ensures.refusal))
    (record {
      left = Answers-follow c.requires.window (record { reply = refl; list = refl; reads = record { numbers = refl; borrow = refl; loads = omega arith; stores = refl } });
      right = record { numbers = refl; borrow = refl; loads = omega arith; stores = refl };
    })

pub returns-in-None : goal.returns-in-None
returns-in-None g c =
    let right = list_in g.C.Elem.BitStore.BITS g.O.BitOrder.at (g.D.CellsRead.numbers c.args.right.now) c.args.source in
    let fits = c.in-None.ensures.fits in
    let did = rw c.range.ensures at (c.transfer.ensures right) in
    rw (transfer-does g.O.WordOrder.HIGH g.C.Elem.BitStore.BITS c.args.window.start right c.args.window.len c.args.self (is-transfer _ c.in_default.not-Plain) (sym c.in-None.ensures.refusal) fits)
    record {
      left = Follows-range c.args.self.from c.args.self.to c.requires.window fits.order fits.bound did;
      right = record { numbers = refl; borrow = refl; loads = omega arith; stores = refl };
    }
