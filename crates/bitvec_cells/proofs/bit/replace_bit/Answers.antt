use Rattle.std.proofs.Common.{arith, sym, ◌∙◌, rules}
use Rattle.std.proofs.lemmas.List.{length-set}
use Rattle.bitvec_base.specs.Memory.{place_bit}
use Rattle.bitvec_base.specs.MemoryLaws.{within-bits}
use Rattle.bitvec_base.specs.WindowLaws.{length-window, window-set}
use Rattle.bitvec_cells.proofs.BitLemmas.{tested, get-window}
use Rattle.bitvec_cells.proofs.PartLemmas.{place-put}
use Rattle.bitvec_cells.proofs.bit.replace_bit.Goals as goal

pub returns-clause-value : goal.returns-clause-value
unfolding place_bit
returns-clause-value g c =
    rw (c.to_u128.ensures.number, c.and.ensures, c.load-element.ensures.value, c.select-mask.ensures, c.BITS-bits.ensures)
    (tested _ _ ∙ sym (get-window _ _ _ c.requires.window.within c.requires.bound))

pub returns-clause-writes : goal.returns-clause-writes
returns-clause-writes g c =
    let width = g.met.C.Elem.BitStore.width_law in
    let within = c.requires.window.within in
    let start = within.start in
    let len = within.len in
    let lies = within-bits g.C.Elem.BitStore.BITS g.O.BitOrder.at (g.C.CellsRead.numbers c.args.cells.now) c.args.window within in
    record {
      bits = rw (c.store.ensures.numbers, c.put.ensures, c.load-element.ensures.value, c.select-mask.ensures, c.load-element.ensures.numbers, c.BITS-bits.ensures)
          (place-put _ width (g.met.O.BitOrder.permutes _ width) _ _ (omega arith) ∙ window-set _ _ _ _ lies c.requires.bound);
      long = length-set _ _ _ ∙ length-window _ _ lies;
      elements = search rules;
    }
