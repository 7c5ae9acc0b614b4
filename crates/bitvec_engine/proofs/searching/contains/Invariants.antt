use Rattle.std.proofs.Common.{◌≡◌, ℕ, ◌*◌, ◌<◌, false}
use Rattle.bitvec_base.specs.Lists.{stands_at}
use Rattle.bitvec_base.specs.Memory.{list_in}
use Rattle.bitvec_cells.specs.Access.{OnlyReadsAtMost}
use Rattle.bitvec_cells.specs.Cost.{read_loads}
use Rattle.bitvec_engine.proofs.searching.contains.Given as goal

abbrev pub invariant-loop-from : goal.invariant-loop-from
invariant-loop-from g l =
    let b = g.C.Elem.BitStore.BITS in
    let list = list_in b g.O.BitOrder.at (g.C.CellsRead.numbers l.fn.cells) l.fn.window in
    let needle = list_in b g.O.BitOrder.at (g.D.CellsRead.numbers l.fn.right) l.fn.needle in
    let loads = l.from * read_loads b g.O.SliceOrder.WORDS l.fn.needle.len in
    record {
      absent : (k : ℕ) → k < l.from → stands_at needle list k ≡ false;
      reads : OnlyReadsAtMost g.C.CellsRead l.fn.cells l.cells loads;
      right : OnlyReadsAtMost g.D.CellsRead l.fn.right l.right loads;
    }
