use Rattle.std.proofs.Common.{◌≡◌, arith, rules}
use Rattle.bitvec_base.specs.Lists.{shifted_end}
use Rattle.bitvec_within.proofs.FewLemmas.{Edits-range, copied-shifts_end}
use Rattle.bitvec_within.proofs.shifting.shift_end_run.Goals as goal

pub returns-then-is_edge : goal.returns-then-is_edge
returns-then-is_edge g c =
    let back : c.elements-then-is_edge-1.given.0 ≡ c.block_copy_within.new.cells.cells.now = search rules in
    record {
      writes = Edits-range g.W.BitOrder.at _ _ _ (shifted_end c.args.by) (shifted_end c.args.by) 0 64 c.requires.window (omega arith) (omega arith) (rw c.new-accessor.ensures.numbers at c.block_copy_within.ensures.writes)
          (rw (c.range.ensures, back) at c.shift_end_few-then-is_edge.ensures.writes) (λ list whole. copied-shifts_end c.args.by _ list whole (omega arith) (omega arith));
    }
