use Rattle.std.proofs.Common.{rules}
use Rattle.bitvec_within.proofs.Swapped.{stretch-swapped}
use Rattle.bitvec_within.proofs.swapping_within.swap_few.Goals as goal

pub returns : goal.returns
returns g c = record {
  writes = stretch-swapped c.args.first c.args.second c.args.count c.requires.window (search rules) c.requires.first c.requires.second
      (rw c.range-near.ensures at c.copy_from_long_block_in.ensures.writes) c.copy_within_in.ensures.writes (rw c.range.ensures at c.copy_from_long_block_in-2.ensures.writes);
}
