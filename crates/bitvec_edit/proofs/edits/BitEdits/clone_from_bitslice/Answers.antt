use Rattle.bitvec_edit.proofs.edits.BitEdits.clone_from_bitslice.Goals as goal

pub returns : goal.returns
returns g c = g.met.Self.ViewMut.written _ _ _ _ _ _ c.copy_from_in.ensures.writes c.elements_mut.ensures.elements c.window-window.ensures.value (cc)
