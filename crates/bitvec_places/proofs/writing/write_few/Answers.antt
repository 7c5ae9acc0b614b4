use Rattle.std.proofs.Common.{arith}
use Rattle.bitvec_places.proofs.WrittenLemmas.{ones-next}
use Rattle.bitvec_places.proofs.writing.write_few.Goals as goal

pub loop-ones-preserved : goal.loop-ones-preserved
loop-ones-preserved c =
    let inv = c.loop-ones.invariant in
    let room = inv.written.room in
    let below = c.if-count-indices.true in
    ones-next inv c.loop-ones-test.true c.loop-ones.auto.ones-fits.fits (omega arith)
