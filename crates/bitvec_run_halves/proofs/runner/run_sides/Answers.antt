use Rattle.std.proofs.Common.{arith, rules, refl, sym, ◌∙◌, ap}
use Rattle.std.proofs.lemmas.List.{take_all, take_more_set}
use Rattle.bitvec_base.specs.Memory.{list_in}
use Rattle.bitvec_base.specs.WritesLaws.{HasWindow-kept, Writes-is}
use Rattle.bitvec_run.specs.FoldLaws.{after-all, replies-all}
use Rattle.bitvec_run_halves.specs.Sides.{halves_of, joined, side_lists, side_reply}
use Rattle.bitvec_run_halves.proofs.SidesLaws.{RanSides-next, RanSides-none, side-has}
use Rattle.bitvec_run_halves.proofs.runner.run_sides.Goals as goal

pub loop-index-init : goal.loop-index-init
loop-index-init g c = record {
  ran = RanSides-none g.C.CellsRead _ _ _ _ _ _ _ c.requires.window c.requires.bound;
  right = refl;
  borrow = refl;
  count = refl;
}

pub carry_out-requires-clause-window : goal.carry_out-requires-clause-window
carry_out-requires-clause-window g c =
    let has = HasWindow-kept _ c.requires.window c.loop-index.invariant.ran.writes.elements in
    rw c.side_window-part.ensures (side-has _ _ c.args.window c.args.mid _ has c.requires.bound)

pub carry_out-requires-clause-right_window : goal.carry_out-requires-clause-right_window
carry_out-requires-clause-right_window g c = rw c.loop-index.invariant.right c.requires.right_window

pub loop-index-preserved : goal.loop-index-preserved
loop-index-preserved g c =
    let inv = c.loop-index.invariant in
    let below = c.loop-index-test.true in
    let did = rw (c.side_window-part.ensures, inv.right) at c.carry_out.ensures in
    record {
      ran = rw (take_more_set c.loop-index.out c.loop-index.index c.carry_out.result (omega (arith, below, inv.count, c.requires.lengths)))
          (RanSides-next g.C.CellsRead _ _ _ _ c.args.window c.args.mid c.args.steps.now c.loop-index.index _ _ _ _ _ _ c.requires.window c.requires.bound below inv.ran did.left);
      right = did.right.numbers ∙ inv.right;
      borrow = did.left.cost.borrow ∙ inv.borrow;
      count = search rules;
    }

pub returns : goal.returns
returns g c =
    let inv = c.loop-index.invariant in
    let right = list_in g.C.Elem.BitStore.BITS g.O.BitOrder.at (g.D.CellsRead.numbers c.args.right.now) c.args.source in
    let lists = halves_of c.args.mid (list_in g.C.Elem.BitStore.BITS g.O.BitOrder.at (g.C.CellsRead.numbers c.args.cells.now) c.args.window) in
    let over = c.loop-index-test.false in
    record {
      runs = record {
        replies_is = sym (take_all c.loop-index.index c.loop-index.out (omega (arith, over, inv.count, c.requires.lengths))) ∙ inv.ran.replied
            ∙ replies-all (side_reply right) (side_lists right) lists c.args.steps.now c.loop-index.index (omega (arith, over));
        writes = Writes-is inv.ran.writes (ap joined (after-all (side_lists right) lists c.args.steps.now c.loop-index.index (omega (arith, over))));
      };
      borrow = inv.borrow;
    }
