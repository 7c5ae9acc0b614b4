use Rattle.std.proofs.Common.{ℕ, ◌-◌, ◌+◌, arith, refl, ap, sym, ◌∙◌, take}
use Rattle.bitvec_base.specs.declared.part.Part.{Part}
use Rattle.bitvec_base.specs.Memory.{element_bits}
use Rattle.bitvec_base.specs.WritesLaws.{Writes-empty, Writes-is}
use Rattle.bitvec_store.specs.WidthLaws.{width_some}
use Rattle.bitvec_cells.specs.WalkLaws.{first-len}
use Rattle.bitvec_words.specs.TouchedLaws.{part_loads-most, touched-first, touched-two}
use Rattle.bitvec_few.proofs.ShortLemmas.{stored-one, stored-two}
use Rattle.bitvec_few.proofs.element.store_short.Goals as goal

pub returns-then-window-eq0-clause-writes : goal.returns-then-window-eq0-clause-writes
returns-then-window-eq0-clause-writes g c =
    let none = c.if-window-eq0.true in
    Writes-is (Writes-empty g.O.BitOrder.at _ c.requires.window none refl) (ap (λ (n : ℕ). take n (element_bits g.C.Elem.BitStore.BITS g.O.BitOrder.at (g.C.Elem.BitStore.value c.args.element))) (sym none))

pub returns-then-count-window-clause-writes : goal.returns-then-count-window-clause-writes
returns-then-count-window-clause-writes g c =
    let window = c.args.window in
    let some = width_some _ g.met.C.Elem.BitStore.width_law in
    let part = c.first_part-head.ensures in
    let step = c.len-count.ensures ∙ ap (λ (p : Part). p.to - p.from) part in
    let before = rw (c.toward_end.ensures, part) at c.store_part.ensures.writes in
    let after = rw (c.toward_start.ensures, part) at c.store_part-then-count-window.ensures.writes in
    stored-two _ _ window _ some (omega arith) c.requires.bound step c.requires.window before c.if-count-window.true after

pub returns-else-count-window-clause-writes : goal.returns-else-count-window-clause-writes
returns-else-count-window-clause-writes g c =
    let window = c.args.window in
    let some = width_some _ g.met.C.Elem.BitStore.width_law in
    let part = c.first_part-head.ensures in
    let step = c.len-count.ensures ∙ ap (λ (p : Part). p.to - p.from) part in
    let before = rw (c.toward_end.ensures, part) at c.store_part.ensures.writes in
    stored-one _ _ window _ some (omega arith) c.requires.bound step c.requires.window before (omega arith)

pub returns-then-count-window-clause-cost : goal.returns-then-count-window-clause-cost
returns-then-count-window-clause-cost g c =
    let b = g.C.Elem.BitStore.BITS in
    let window = c.args.window in
    let some = width_some _ g.met.C.Elem.BitStore.width_law in
    let part = c.first_part-head.ensures in
    let step = c.len-count.ensures ∙ ap (λ (p : Part). p.to - p.from) part in
    let len = first-len b window some (omega arith) in
    let left = c.if-count-window.true in
    let all = touched-two b window.start window.len some c.requires.bound (omega arith) in
    let first = part_loads-most b c.first_part-head.result in
    let second = part_loads-most b (record { element = c.first_part-head.result.element + 1; from = 0; to = window.len - c.len-count.result }) in
    let before = c.store_part.ensures.cost in
    let after = c.store_part-then-count-window.ensures.cost in
    rw all (record { borrow = after.borrow ∙ before.borrow; loads = omega arith; stores = omega arith })

pub returns-else-count-window-clause-cost : goal.returns-else-count-window-clause-cost
returns-else-count-window-clause-cost g c =
    let b = g.C.Elem.BitStore.BITS in
    let window = c.args.window in
    let all = touched-first b window.start window.len (omega arith) in
    let first = part_loads-most b c.first_part-head.result in
    let before = c.store_part.ensures.cost in
    record { borrow = before.borrow; loads = omega arith; stores = omega arith }
