use Rattle.std.proofs.Common.{◌≡◌, ℕ, ◌*◌, map, arith, ap, ◌∙◌}
use Rattle.std.proofs.lemmas.List.{length-map}
use Rattle.bitvec_test_support.specs.base.Memory.{memory_bits, element_bits}
use Rattle.bitvec_test_support.specs.base.MemoryLaws.{set-element}
use Rattle.bitvec_test_support.specs.store.WidthLaws.{width_some}
use Rattle.bitvec_test_support.specs.base.Window.{write_at}
use Rattle.bitvec_engine_tests.proofs.accessors.store_first.Goals as goal

pub returns : goal.returns
returns g c =
    let b = g.T.BitStore.BITS in
    let at = g.O.BitOrder.at in
    let xs = map g.T.BitStore.value c.args.elements.now in
    let long = length-map c.args.elements.now g.T.BitStore.value in
    let start : 0 * b ≡ 0 = omega arith in
    ap (memory_bits b at) c.set_first_to.ensures
    ∙ set-element b at xs 0 (g.T.BitStore.value c.args.element) (width_some b g.met.T.BitStore.width_law) (omega arith)
    ∙ ap (λ (s : ℕ). write_at (memory_bits b at xs) s (element_bits b at (g.T.BitStore.value c.args.element))) start
