use Rattle.std.proofs.Common.{ℕ, ◌-◌, ap, sym, ◌∙◌, map}
use Rattle.bitvec_base.specs.Lists.{rotated_left}
use Rattle.bitvec_base.specs.Memory.{list_in}
use Rattle.bitvec_base.specs.RotationLaws.{rotated_right-left}
use Rattle.bitvec_base.specs.WritesLaws.{Writes-is, length-list}
use Rattle.bitvec_within.proofs.rotating.rotate_right_in.Goals as goal

pub returns : goal.returns
returns g c =
    let by = c.args.by in
    let list = list_in g.T.BitStore.BITS g.O.BitOrder.at (map g.T.BitStore.value c.args.elements.now) c.args.window in
    record {
      writes = Writes-is c.rotate_left_in.ensures.writes
          (sym (rotated_right-left by list ∙ ap (λ (n : ℕ). rotated_left (n - by) list) (length-list g.O.BitOrder.at c.requires.window)));
    }
