use Rattle.bitvec_edit.proofs.edits.BitEdits.combine_bits.Goals as goal

pub returns : goal.returns
returns g c =
    let is = (g.met.Self.View.shows_elements c.args.self.now).bits in
    g.met.Self.ViewMut.written _ _ _ _ _ _ c.combine_in.ensures.writes c.elements_mut.ensures.elements c.window-window.ensures.value (cc)
