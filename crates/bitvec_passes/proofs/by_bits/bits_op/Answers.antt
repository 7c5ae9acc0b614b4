use Rattle.std.proofs.Common.{◌≡◌, ◌+◌, false, min, slice_index_or, arith, ◌∙◌, sym, rules}
use Rattle.std.proofs.lemmas.Bool.{le-ltb}
use Rattle.bitvec_base.specs.ListsLaws.{length-combined, get-combined}
use Rattle.bitvec_base.specs.Memory.{list_in}
use Rattle.bitvec_base.specs.TransferLaws.{transfer-none, transfer-next, transfer-rest, transfer-all}
use Rattle.bitvec_base.specs.WindowLaws.{window-past}
use Rattle.bitvec_base.specs.WritesLaws.{length-list, within-list}
use Rattle.bitvec_cells.specs.Access.{OnlyReads}
use Rattle.bitvec_words.specs.Operator.{operator}
use Rattle.bitvec_passes.proofs.by_bits.bits_op.Goals as goal
use Rattle.bitvec_passes.proofs.by_bits.bits_op.Goals.{then-index-from, else-index-from}

pub loop-index-init : goal.loop-index-init
loop-index-init g c = record {
  writes = transfer-none _ c.requires.window;
  cost = search rules;
  right = search rules;
}

pub loop-index-preserved : goal.loop-index-preserved
loop-index-preserved g c =
    let inv = c.loop-index.invariant in
    let window = c.requires.window in
    let inside = c.loop-index-test.true in
    let list = list_in g.D.Elem.BitStore.BITS g.P.BitOrder.at (g.D.CellsRead.numbers c.args.right.now) c.args.from in
    let other : c.if-index-from.other ≡ slice_index_or list c.loop-index.index false = elim c.if-index-from.branch [
      | then-index-from w ↦ w.other-is ∙ rw inv.right.numbers at w.get_bit-other.ensures.value
      | else-index-from w ↦ w.other-is ∙ le-ltb _ _ w.if-index-from.false ∙ sym (window-past _ c.args.from c.loop-index.index false (within-list g.P.BitOrder.at c.requires.right_window) w.if-index-from.false)
    ] in
    let right : OnlyReads g.D.CellsRead c.args.right.now c.if-index-from.right (min (c.loop-index.index + 1) c.args.from.len) = elim c.if-index-from.branch [
      | then-index-from w ↦ let read = w.get_bit-other.ensures.reads in
          rw w.right-is (record { numbers = read.numbers ∙ inv.right.numbers; borrow = read.borrow ∙ inv.right.borrow; loads = grind (arith, inv.right.loads, read.loads); stores = read.stores ∙ inv.right.stores })
      | else-index-from w ↦ let same : min (c.loop-index.index + 1) c.args.from.len ≡ min c.loop-index.index c.args.from.len = omega arith in rw (w.right-is, same) inv.right
    ] in
    let list-long = length-list g.O.BitOrder.at window in
    let long = length-combined (operator c.args.op) _ _ ∙ list-long in
    let bit = c.get_bit-bit.ensures.value ∙ transfer-rest _ window long inside inv.writes in
    record {
      writes = transfer-next _ window long inside inv.writes (rw c.get_bit-bit.ensures.reads.numbers at c.replace_bit.ensures.writes)
          (c.of.ensures ∙ rw (bit, other) (sym (get-combined (operator c.args.op) _ _ c.loop-index.index _ (omega arith))));
      cost = search rules;
      right = right;
    }

pub returns-clause-writes : goal.returns-clause-writes
returns-clause-writes g c =
    transfer-all c.requires.window (length-combined _ _ _ ∙ length-list _ c.requires.window) (omega arith) c.loop-index.invariant.writes
