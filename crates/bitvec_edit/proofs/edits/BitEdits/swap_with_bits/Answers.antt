use Rattle.bitvec_slice.specs.WriteLaws.{written}
use Rattle.bitvec_edit.proofs.edits.BitEdits.swap_with_bits.Goals as goal

pub returns : goal.returns
returns g c =
    let is = (g.met.Self.View.shows_elements c.args.self.now).bits in
    record {
      bits = g.met.Self.ViewMut.written _ _ _ _ _ _ c.swap_with_in.ensures.writes c.elements_mut.ensures.elements c.window-window.ensures.value (cc);
      other_bits = written _ _ _ _ _ _ c.swap_with_in.ensures.right_writes c.elements_mut-2.ensures.elements c.window-other_window.ensures.value (cc);
    }
