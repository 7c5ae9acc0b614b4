use Rattle.bitvec_closures.proofs.edit_parts.EditParts.edit_with.Goals as goal

pub returns : goal.returns
returns g c =
    let shown = c.edit_shown.ensures in
    record { piece = shown.piece; left = shown.left; is = shown.is; edited = shown.edited; written = g.met.Self.EditParts.written_so _ _ _ shown.written }
