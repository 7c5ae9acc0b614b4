use Rattle.std.proofs.Common.{arith}
use Rattle.bitvec_places.proofs.WrittenLemmas.{ones-more, ones-next}
use Rattle.bitvec_places.proofs.writing.write_all.Goals as goal

pub loop-ones-preserved : goal.loop-ones-preserved
loop-ones-preserved c =
    let inv = c.loop-ones.invariant in
    let few = c.requires.room in
    let fits = c.loop-ones.auto.ones-fits.fits in
    let more = ones-more inv c.loop-ones-test.true fits in
    ones-next inv c.loop-ones-test.true fits (omega arith)
