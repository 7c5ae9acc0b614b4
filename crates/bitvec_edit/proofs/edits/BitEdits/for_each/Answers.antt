use Rattle.std.proofs.Common.{length, ap, refl, subst, sym, ◌∙◌}
use Rattle.bitvec_base.specs.declared.window.Window.{Window}
use Rattle.bitvec_domain.specs.Asked.{RefillsWith}
use Rattle.bitvec_edit.proofs.edits.BitEdits.for_each.Goals as goal

pub returns : goal.returns
returns g c =
    let v = c.args.self.now in
    let wrote = c.for_each_in.ensures.writes in
    let written = g.met.Self.ViewMut.written v _ _ _ _ _ wrote.2 c.elements_mut.ensures.elements c.window-window.ensures.value refl in
    let bits = g.met.Self.ViewMut.has_written _ _ _ written in
    let asked = rw (c.elements_mut.ensures.elements, c.window-window.ensures.value, ← (g.met.Self.View.shows_elements v).bits) at wrote.1 in
    record {
      answers = subst (RefillsWith g.F.FnMut c.args.f (g.Self.Shows.shows v).bits) (sym bits) asked;
      bits = subst (g.Self.ViewMut.writes v _) (sym bits) written;
      len = ap length bits ∙ wrote.2.long ∙ ap (λ (w : Window). w.len) c.window-window.ensures.value;
    }
