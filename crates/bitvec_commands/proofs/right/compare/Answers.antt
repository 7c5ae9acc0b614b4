use Rattle.std.proofs.Common.{ap, refl}
use Rattle.bitvec_commands.specs.declared.command.Reply.TheVariants.{Bit, Order}
use Rattle.bitvec_commands.specs.FollowsLaws.{Answers-follow, list-inside}
use Rattle.bitvec_commands.proofs.right.compare.Goals as goal

pub returns-in-Eq : goal.returns-in-Eq
returns-in-Eq g c =
    let fits = rw c.in-Eq.is at c.requires.fits_right in
    let same = list-inside g.O.BitOrder.at c.requires.right_window fits in
    let answered = rw (c.inside.ensures, same) at c.block_eq.ensures in
    rw c.in-Eq.is
    (record { left = Answers-follow c.requires.window (record { reply = ap Bit answered.value; list = refl; reads = answered.reads }); right = answered.right })

pub returns-in-Cmp : goal.returns-in-Cmp
returns-in-Cmp g c =
    let fits = rw c.in-Cmp.is at c.requires.fits_right in
    let same = list-inside g.O.BitOrder.at c.requires.right_window fits in
    let answered = rw (c.inside-other.ensures, same) at c.compare.ensures in
    rw c.in-Cmp.is
    (record { left = Answers-follow c.requires.window (record { reply = ap Order answered.value; list = refl; reads = answered.reads }); right = answered.right })

pub returns-in-StartsWith : goal.returns-in-StartsWith
returns-in-StartsWith g c =
    let fits = rw c.in-StartsWith.is at c.requires.fits_right in
    let same = list-inside g.O.BitOrder.at c.requires.right_window fits in
    let answered = rw (c.inside-in-StartsWith.ensures, same) at c.starts_with.ensures in
    rw c.in-StartsWith.is
    (record { left = Answers-follow c.requires.window (record { reply = ap Bit answered.value; list = refl; reads = answered.reads }); right = answered.right })

pub returns-in-EndsWith : goal.returns-in-EndsWith
returns-in-EndsWith g c =
    let fits = rw c.in-EndsWith.is at c.requires.fits_right in
    let same = list-inside g.O.BitOrder.at c.requires.right_window fits in
    let answered = rw (c.inside-in-EndsWith.ensures, same) at c.ends_with.ensures in
    rw c.in-EndsWith.is
    (record { left = Answers-follow c.requires.window (record { reply = ap Bit answered.value; list = refl; reads = answered.reads }); right = answered.right })

pub returns-in-Contains : goal.returns-in-Contains
returns-in-Contains g c =
    let fits = rw c.in-Contains.is at c.requires.fits_right in
    let same = list-inside g.O.BitOrder.at c.requires.right_window fits in
    let answered = rw (c.inside-in-Contains.ensures, same) at c.contains.ensures in
    rw c.in-Contains.is
    (record { left = Answers-follow c.requires.window (record { reply = ap Bit answered.value; list = refl; reads = answered.reads }); right = answered.right })
