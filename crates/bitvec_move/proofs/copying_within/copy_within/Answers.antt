use Rattle.std.proofs.Common.{◌+◌, ◌-◌, arith}
use Rattle.bitvec_base.specs.Lists.{copied_within}
use Rattle.bitvec_base.specs.WritesLaws.{Writes-is, Writes-range, list-range}
use Rattle.bitvec_move.proofs.copying_within.copy_within.Goals as goal

pub returns-clause-writes : goal.returns-clause-writes
unfolding copied_within
returns-clause-writes g c =
    let fits = c.requires.fits in let dest = c.args.dest in
    let moved = rw (c.range-target.ensures, c.range-source.ensures) at c.move_window.ensures.writes in
    Writes-range dest (dest + (c.args.to - c.args.from)) c.requires.window (omega arith) fits.room
    (Writes-is moved (list-range _ c.args.from c.args.to c.requires.window fits.order fits.source))
