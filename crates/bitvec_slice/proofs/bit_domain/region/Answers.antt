use Rattle.std.specs.Prelude.{◌≡◌, ℕ, ◌-◌, ◌*◌, drop, length, take}
use Rattle.std.proofs.Common.{arith, ◌∙◌, ap, length-drop, length-take}
use Rattle.bitvec_base.specs.SliceLaws.{range-rest}
use Rattle.bitvec_slice.proofs.DomainBits.{head_view, tail_view}
use Rattle.bitvec_slice.proofs.bit_domain.region.Goals as goal

pub returns : goal.returns
returns g c =
    let b = g.T.BitStore.BITS in
    let at = g.O.BitOrder.at in
    let value = g.T.BitStore.value in
    let elements = c.args.elements.now in
    let start = c.args.start in
    let end = c.args.end in
    let cut = c.requires.cut in
    let front = c.split_at_mut-front.ensures in
    let before = c.split_at_mut-before.ensures in
    let whole = rw (before.back, front.front) at c.from_slice_mut-body.ensures.whole in
    let order = cut.1 in
    let bound = cut.2 in
    let long : length (drop start (take end elements)) ≡ end - start = omega (arith, length-drop start (take end elements), length-take end elements) in
    let size = ap (λ (n : ℕ). b * n) long in
    let middle = whole.elements ∙ range-rest elements start end in
    let first = (rw (before.front, front.front) at c.part_view_if_mut-head.ensures) ∙ head_view b at value elements start end c.args.head order bound cut.0 in
    let last = (rw front.back at c.part_view_if_mut-tail.ensures) ∙ tail_view b at value elements end c.args.tail cut.3 in
    cc
