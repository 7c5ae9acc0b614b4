use Rattle.std.proofs.Common.{◌-◌, ◌%◌, arith}
use Rattle.bitvec_elements.proofs.StoreLemmas.{stretches-copied}
use Rattle.bitvec_elements.proofs.recutting.recut_run.Goals as goal

pub returns : goal.returns
returns g c =
    let some = c.requires.some in
    let f = (64 - c.args.to.start % 64) % 64 in
    let l = c.args.to.len - (c.args.to.len - f) % 64 in
    record {
      writes = stretches-copied _ c.args.to c.args.from f l c.requires.pair (omega arith) (omega arith)
          c.range.ensures c.range-2.ensures c.copy_words.ensures.writes c.range-3.ensures c.range-4.ensures c.recut_words.ensures.writes c.range-place.ensures c.range-source.ensures c.copy_words-2.ensures.writes;
    }
