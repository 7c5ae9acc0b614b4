use Rattle.std.proofs.Common.{sym, ◌∙◌, refl}
use Rattle.bitvec_words.specs.FieldLaws.{Writes-none}
use Rattle.bitvec_move.proofs.CostSums.{Costs-touched}
use Rattle.bitvec_move.proofs.swapping.swap.Goals as goal

pub returns-then-left_window-eq0-clause-swaps : goal.returns-then-left_window-eq0-clause-swaps
returns-then-left_window-eq0-clause-swaps g c =
    let none = c.if-left_window-eq0.true in
    record {
      writes = Writes-none _ _ _ c.requires.window none (sym c.requires.lengths ∙ none);
      right_writes = Writes-none _ _ _ c.requires.beside (sym c.requires.lengths ∙ none) none;
    }

pub returns-then-phase-clause-cost : goal.returns-then-phase-clause-cost
returns-then-phase-clause-cost g c = Costs-touched g.C.CellsRead _ g.met.C.Elem.BitStore.width_law refl c.swap_equal.ensures.cost

pub returns-then-phase-clause-right_cost : goal.returns-then-phase-clause-right_cost
returns-then-phase-clause-right_cost g c = Costs-touched g.D.CellsRead _ g.met.C.Elem.BitStore.width_law c.requires.lengths c.swap_equal.ensures.right_cost

pub returns-else-phase-clause-cost : goal.returns-else-phase-clause-cost
returns-else-phase-clause-cost g c = Costs-touched g.C.CellsRead _ g.met.C.Elem.BitStore.width_law refl c.swap_shifted.ensures.cost

pub returns-else-phase-clause-right_cost : goal.returns-else-phase-clause-right_cost
returns-else-phase-clause-right_cost g c = Costs-touched g.D.CellsRead _ g.met.C.Elem.BitStore.width_law c.requires.lengths c.swap_shifted.ensures.right_cost
