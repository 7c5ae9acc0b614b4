use Rattle.std.proofs.Common.{rules}
use Rattle.bitvec_commands.specs.FollowsLaws.{list-inside}
use Rattle.bitvec_commands.proofs.right.combine.Goals as goal

pub returns-in-CopyFrom : goal.returns-in-CopyFrom
returns-in-CopyFrom g c =
    let fits = rw c.in-CopyFrom.is at c.requires.fits_right in
    let same = list-inside g.O.BitOrder.at c.requires.right_window fits in
    rw c.in-CopyFrom.is (search rules)

pub returns-in-And : goal.returns-in-And
returns-in-And g c =
    let fits = rw c.in-And.is at c.requires.fits_right in
    let same = list-inside g.O.BitOrder.at c.requires.right_window fits in
    rw c.in-And.is (search rules)

pub returns-in-Or : goal.returns-in-Or
returns-in-Or g c =
    let fits = rw c.in-Or.is at c.requires.fits_right in
    let same = list-inside g.O.BitOrder.at c.requires.right_window fits in
    rw c.in-Or.is (search rules)

pub returns-in-Xor : goal.returns-in-Xor
returns-in-Xor g c =
    let fits = rw c.in-Xor.is at c.requires.fits_right in
    let same = list-inside g.O.BitOrder.at c.requires.right_window fits in
    rw c.in-Xor.is (search rules)
