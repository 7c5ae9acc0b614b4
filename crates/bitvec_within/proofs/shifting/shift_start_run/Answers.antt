use Rattle.std.proofs.Common.{◌≡◌, ◌-◌, arith, rules}
use Rattle.bitvec_base.specs.Lists.{shifted_start}
use Rattle.bitvec_within.proofs.FewLemmas.{Edits-range, copied-shifts_start}
use Rattle.bitvec_within.proofs.shifting.shift_start_run.Goals as goal

pub returns-then-is_edge : goal.returns-then-is_edge
returns-then-is_edge g c =
    let back : c.elements-then-is_edge-1.given.0 ≡ c.block_copy_within.new.cells.cells.now = search rules in
    record {
      writes = Edits-range g.W.BitOrder.at _ _ _ (shifted_start c.args.by) (shifted_start c.args.by) (c.args.window.len - 64) c.args.window.len c.requires.window (omega arith) (omega arith) (rw c.new-accessor.ensures.numbers at c.block_copy_within.ensures.writes)
          (rw (c.range.ensures, back) at c.shift_start_few-then-is_edge.ensures.writes) (λ list whole. copied-shifts_start c.args.by _ list whole (omega arith) (omega arith));
    }
