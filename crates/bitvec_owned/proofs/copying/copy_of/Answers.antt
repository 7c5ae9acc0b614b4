use Rattle.std.proofs.Common.{◌≡◌, ℕ, ◌+◌, ◌∙◌, ap, length, refl, rules, sym}
use Rattle.std.specs.Int.{div_ceil}
use Rattle.bitvec_store.specs.WidthLaws.{width_some}
use Rattle.bitvec_slice.specs.ShowingLaws.{length-seen}
use Rattle.bitvec_slice.specs.Views.{seen}
use Rattle.bitvec_owned.proofs.Held.{holds}
use Rattle.bitvec_owned.proofs.copying.copy_of.Goals as goal

pub returns-clause-copy : goal.returns-clause-copy
returns-clause-copy g c =
    let begins = rw c.window.ensures.value at c.start_of_copy-head.ensures in
    let elements = c.in_ok-elements.elements in
    let size : length elements.items ≡ elements.len = search rules in
    let written = rw (← size) at c.in_ok-elements.ensures.bits in
    let bits = (seen c.args.view).bits in
    let many = size ∙ c.in_ok-elements.ensures.len ∙ ap (λ (n : ℕ). div_ceil (c.start_of_copy-head.result + n) g.T.BitStore.BITS) (sym (length-seen c.args.view)) in
    rw (← begins, c.from_parts.ensures.shows, c.len.ensures.value)
    (holds g.T.BitStore.BITS g.O.BitOrder.at g.T.BitStore.value (width_some _ g.met.T.BitStore.width_law) elements.items c.start_of_copy-head.result (length bits) bits refl many written)
