use Rattle.std.proofs.Common.{length, ap, refl, subst, sym, ◌∙◌}
use Rattle.bitvec_base.specs.declared.window.Window.{Window}
use Rattle.bitvec_domain.specs.Asked.{FillsWith}
use Rattle.bitvec_edit.proofs.edits.BitEdits.fill_with.Goals as goal

pub returns : goal.returns
returns g c =
    let wrote = c.fill_with_in.ensures.writes in
    let written = g.met.Self.ViewMut.written c.args.self.now _ _ _ _ _ wrote.2 c.elements_mut.ensures.elements c.window-window.ensures.value refl in
    let bits = g.met.Self.ViewMut.has_written _ _ _ written in
    record {
      answers = subst (FillsWith g.F.FnMut c.args.f) (sym bits) wrote.1;
      bits = subst (g.Self.ViewMut.writes c.args.self.now _) (sym bits) written;
      len = ap length bits ∙ wrote.2.long ∙ ap (λ (w : Window). w.len) c.window-window.ensures.value;
    }
