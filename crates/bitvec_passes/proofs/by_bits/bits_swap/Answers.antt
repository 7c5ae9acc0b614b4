use Rattle.std.proofs.Common.{arith, ◌∙◌, sym, rules}
use Rattle.bitvec_base.specs.WritesLaws.{length-list}
use Rattle.bitvec_base.specs.TransferLaws.{transfer-none, transfer-next, transfer-rest, transfer-all}
use Rattle.bitvec_passes.proofs.by_bits.bits_swap.Goals as goal

pub loop-index-init : goal.loop-index-init
loop-index-init g c = record {
  writes = transfer-none _ c.requires.window;
  cost = search rules;
  right_writes = transfer-none _ c.requires.beside;
  right_cost = search rules;
}

pub loop-index-preserved : goal.loop-index-preserved
loop-index-preserved g c =
    let inv = c.loop-index.invariant in
    let window = c.requires.window in
    let right_window = c.requires.beside in
    let inside = c.loop-index-test.true in
    let long = length-list g.P.BitOrder.at right_window ∙ sym c.requires.lengths in
    let right_long = length-list g.O.BitOrder.at window ∙ c.requires.lengths in
    let bit = c.get_bit-bit.ensures.value ∙ transfer-rest _ right_window right_long (omega arith) inv.right_writes in
    let replaced = c.replace_bit-replaced.ensures.value ∙ transfer-rest _ window long inside inv.writes in
    record {
      writes = transfer-next _ window long inside inv.writes c.replace_bit-replaced.ensures.writes bit;
      cost = search rules;
      right_writes = transfer-next _ right_window right_long (omega arith) inv.right_writes (rw c.get_bit-bit.ensures.reads.numbers at c.replace_bit.ensures.writes) replaced;
      right_cost = search rules;
    }

pub returns-clause-writes : goal.returns-clause-writes
returns-clause-writes g c =
    transfer-all c.requires.window (length-list _ c.requires.beside ∙ sym c.requires.lengths) (omega arith) c.loop-index.invariant.writes

pub returns-clause-right_writes : goal.returns-clause-right_writes
returns-clause-right_writes g c =
    transfer-all c.requires.beside (length-list _ c.requires.window ∙ c.requires.lengths) (omega arith) c.loop-index.invariant.right_writes
