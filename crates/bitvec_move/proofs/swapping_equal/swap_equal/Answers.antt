use Rattle.std.proofs.Common.{◌≡◌, ◌≢◌, ◌-◌, ◌%◌, min, arith, ◌∙◌, ap, refl}
use Rattle.bitvec_store.specs.WidthLaws.{width_some}
use Rattle.bitvec_cells.specs.Cost.{touched_count}
use Rattle.bitvec_move.proofs.CostSums.{Costs-sum}
use Rattle.bitvec_move.proofs.SwapLaws.{SwapsWindows-joined, beside-head}
use Rattle.bitvec_words.specs.TouchedLaws.{touched-head, touched-rest}
use Rattle.bitvec_words.specs.MovedPlaceLaws.{behind-edge, head-element, head-part}
use Rattle.bitvec_move.proofs.MoveLemmas.{after-span}
use Rattle.bitvec_move.proofs.swapping_equal.swap_equal.Goals as goal

pub swap_part-requires-clause-part : goal.swap_part-requires-clause-part
swap_part-requires-clause-part g c = head-part _ _ _ c.args.left_window _ g.met.C.Elem.BitStore.width_law refl c.head_of-passed.ensures.part c.requires.some c.requires.span.window

pub swap_part-requires-clause-source : goal.swap_part-requires-clause-source
swap_part-requires-clause-source g c = rw c.element.ensures (head-element g.met.C.Elem.BitStore.width_law refl (omega arith) c.requires.span.beside)

pub swap_aligned-requires-2-clause-edge : goal.swap_aligned-requires-2-clause-edge
swap_aligned-requires-2-clause-edge g c = behind-edge _ c.args.left_window g.met.C.Elem.BitStore.width_law c.after-rest.ensures c.head_of-passed.ensures.long c.if-passed-left_window.false

pub swap_aligned-requires-2-clause-right_edge : goal.swap_aligned-requires-2-clause-right_edge
swap_aligned-requires-2-clause-right_edge g c =
    let b = g.C.Elem.BitStore.BITS in
    let same : c.head_of-passed.result.1 ≡ min c.args.right_window.len (b - c.args.right_window.start % b) = rw (c.requires.span.lengths, c.requires.phases) at c.head_of-passed.ensures.long in
    let left : c.head_of-passed.result.1 ≢ c.args.right_window.len = λ e. c.if-passed-left_window.false (omega arith) in
    behind-edge b c.args.right_window g.met.C.Elem.BitStore.width_law c.after-behind.ensures same left

pub returns-then-passed-left_window-clause-cost : goal.returns-then-passed-left_window-clause-cost
returns-then-passed-left_window-clause-cost g c =
    let b = g.C.Elem.BitStore.BITS in
    let one = touched-head b c.args.left_window.start c.head_of-passed.result.1 c.args.left_window.len (width_some _ g.met.C.Elem.BitStore.width_law) c.requires.some c.head_of-passed.ensures.long in
    let all = ap (touched_count b c.args.left_window.start) c.if-passed-left_window.true in
    rw (← all, one) c.swap_part.ensures.cost

pub returns-then-passed-left_window-clause-right_cost : goal.returns-then-passed-left_window-clause-right_cost
returns-then-passed-left_window-clause-right_cost g c =
    let b = g.C.Elem.BitStore.BITS in
    let same : c.head_of-passed.result.1 ≡ min c.args.right_window.len (b - c.args.right_window.start % b) = rw (c.requires.span.lengths, c.requires.phases) at c.head_of-passed.ensures.long in
    let one = touched-head b c.args.right_window.start c.head_of-passed.result.1 c.args.right_window.len (width_some _ g.met.C.Elem.BitStore.width_law) (omega arith) same in
    let all = ap (touched_count b c.args.right_window.start) (c.if-passed-left_window.true ∙ c.requires.span.lengths) in
    rw (← all, one) c.swap_part.ensures.right_cost

pub returns-clause-swaps : goal.returns-clause-swaps
returns-clause-swaps g c =
    let b = g.C.Elem.BitStore.BITS in
    let some = width_some _ g.met.C.Elem.BitStore.width_law in
    let first = rw (c.head_of-passed.ensures.part, c.element.ensures) at c.swap_part.ensures.swaps in
    let rest = rw (c.after-rest.ensures, c.after-behind.ensures) at c.swap_aligned-2.ensures.swaps in
    SwapsWindows-joined c.requires.span.window c.requires.span.beside
    (beside-head b c.args.left_window c.args.left_window c.head_of-passed.result.1 some c.requires.some c.head_of-passed.ensures.long refl refl)
    (beside-head b c.args.left_window c.args.right_window c.head_of-passed.result.1 some c.requires.some c.head_of-passed.ensures.long c.requires.span.lengths c.requires.phases)
    first rest

pub returns-clause-cost : goal.returns-clause-cost
returns-clause-cost g c =
    let all = touched-rest g.C.Elem.BitStore.BITS c.args.left_window.start c.head_of-passed.result.1 c.args.left_window.len (width_some _ g.met.C.Elem.BitStore.width_law) c.requires.some c.head_of-passed.ensures.long c.if-passed-left_window.false in
    let rest = rw c.after-rest.ensures at c.swap_aligned-2.ensures.cost in
    Costs-sum g.C.CellsRead c.swap_part.ensures.cost rest all all

pub returns-clause-right_cost : goal.returns-clause-right_cost
returns-clause-right_cost g c =
    let b = g.C.Elem.BitStore.BITS in
    let same : c.head_of-passed.result.1 ≡ min c.args.right_window.len (b - c.args.right_window.start % b) = rw (c.requires.span.lengths, c.requires.phases) at c.head_of-passed.ensures.long in
    let left : c.head_of-passed.result.1 ≢ c.args.right_window.len = λ e. c.if-passed-left_window.false (omega arith) in
    let all = touched-rest b c.args.right_window.start c.head_of-passed.result.1 c.args.right_window.len (width_some _ g.met.C.Elem.BitStore.width_law) (omega arith) same left in
    let rest = rw c.after-behind.ensures at c.swap_aligned-2.ensures.right_cost in
    Costs-sum g.D.CellsRead c.swap_part.ensures.right_cost rest all all

pub swap_aligned-requires-2-clause-span : goal.swap_aligned-requires-2-clause-span
swap_aligned-requires-2-clause-span g c =
    let swaps = c.swap_part.ensures.swaps in
    rw (c.after-rest.ensures, c.after-behind.ensures) (after-span _ c.requires.span swaps.writes.elements swaps.right_writes.elements (c.head_of-passed.ensures.fits))
