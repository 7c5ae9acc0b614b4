use Rattle.std.proofs.Common.{arith, refl}
use Rattle.bitvec_commands.specs.FollowsLaws.{Answers-follow}
use Rattle.bitvec_commands.proofs.carrying.carry_out.Goals as goal

pub returns-in-Get : goal.returns-in-Get
returns-in-Get g c = record {
  left = Answers-follow c.requires.window (c.query.ensures _);
  right = record { numbers = refl; borrow = refl; loads = omega arith; stores = refl };
}

pub returns-in-Set : goal.returns-in-Set
returns-in-Set g c = record { left = c.edit.ensures _; right = record { numbers = refl; borrow = refl; loads = omega arith; stores = refl } }

pub returns-in-Reverse : goal.returns-in-Reverse
returns-in-Reverse g c = record { left = c.rearrange.ensures _; right = record { numbers = refl; borrow = refl; loads = omega arith; stores = refl } }
