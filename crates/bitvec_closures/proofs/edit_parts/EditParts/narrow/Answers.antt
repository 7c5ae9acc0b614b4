use Rattle.std.proofs.Common.{ap, arith}
use Rattle.bitvec_base.specs.declared.window.Window.{Window}
use Rattle.bitvec_closures.specs.InPlaceLaws.{piece-is, shown-within}
use Rattle.bitvec_closures.proofs.edit_parts.EditParts.narrow.Goals as goal

pub stand_at-requires : goal.stand_at-requires
stand_at-requires g c =
    let within = shown-within (g.met.Self.View.shows_elements c.args.self.now) in
    let start = ap (λ (w : Window). w.start) c.window-window.ensures.value in
    let first = within.start in
    let last = within.len in
    let (order, bound) = c.requires in
    record { start = omega arith; len = omega arith }

pub returns : goal.returns
returns g c =
    let stands = rw c.window-window.ensures.value at c.stand_at.ensures in
    record { stood = c.window-window.ensures.value; stands = stands; part = piece-is g.met.Self.View.shows_elements c.args.range c.requires stands }
