use Rattle.std.proofs.Common.{arith, ◌∙◌, sym, rules}
use Rattle.bitvec_base.specs.WritesLaws.{length-list}
use Rattle.bitvec_base.specs.TransferLaws.{transfer-none, transfer-next, transfer-all}
use Rattle.bitvec_passes.proofs.by_bits.bits_copy.Goals as goal

pub loop-index-init : goal.loop-index-init
loop-index-init g c = record {
  writes = transfer-none _ c.requires.window;
  cost = search rules;
  right = search rules;
}

pub loop-index-preserved : goal.loop-index-preserved
loop-index-preserved g c =
    let inv = c.loop-index.invariant in
    record {
      writes = transfer-next _ c.requires.window (length-list _ c.requires.beside ∙ sym c.requires.lengths) c.loop-index-test.true inv.writes c.replace_bit.ensures.writes (rw inv.right.numbers at c.get_bit-bit.ensures.value);
      cost = search rules;
      right = search rules;
    }

pub returns-clause-writes : goal.returns-clause-writes
returns-clause-writes g c =
    transfer-all c.requires.window (length-list _ c.requires.beside ∙ sym c.requires.lengths) (omega arith) c.loop-index.invariant.writes
