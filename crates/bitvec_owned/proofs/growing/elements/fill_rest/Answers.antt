use Rattle.std.proofs.Common.{◌≡◌, ◌%◌, ◌∙◌, arith, map, sym}
use Rattle.bitvec_base.specs.Memory.{memory_bits}
use Rattle.bitvec_base.specs.WriteLaws.{write_at-nil}
use Rattle.bitvec_slice.specs.SeenLaws.{length-memory}
use Rattle.bitvec_owned.proofs.Fillings.{rest-none}
use Rattle.bitvec_owned.proofs.growing.elements.fill_rest.Goals as goal

pub returns-then-from-eq0-clause-bits : goal.returns-then-from-eq0-clause-bits
returns-then-from-eq0-clause-bits g c =
    let b = g.T.BitStore.BITS in
    let memory = memory_bits b g.O.BitOrder.at (map g.T.BitStore.value c.args.elements.now) in
    let long = length-memory b g.O.BitOrder.at g.T.BitStore.value c.args.elements.now in
    let whole : c.args.place % b ≡ 0 = sym c.phase_of-from.ensures ∙ c.if-from-eq0.true in
    rw (rest-none b c.args.place whole) (sym (write_at-nil memory c.args.place (omega arith)))
