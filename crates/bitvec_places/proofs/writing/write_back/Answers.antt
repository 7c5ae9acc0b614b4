use Rattle.std.proofs.Common.{arith}
use Rattle.bitvec_places.proofs.BackLemmas.{back-next, places-most}
use Rattle.bitvec_places.proofs.writing.write_back.Goals as goal

pub loop-ones-preserved : goal.loop-ones-preserved
loop-ones-preserved c =
    let enough = c.requires.room in
    let most = places-most c.args.base c.args.ones c.ranges.ones.fits in
    back-next c.loop-ones.invariant c.loop-ones-test.true c.loop-ones.auto.ones-fits.fits (omega arith)
