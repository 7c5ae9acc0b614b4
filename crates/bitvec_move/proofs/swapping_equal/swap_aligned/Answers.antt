use Rattle.std.proofs.Common.{arith, refl}
use Rattle.bitvec_store.specs.WidthLaws.{width_some}
use Rattle.bitvec_move.proofs.CostSums.{Costs-sum}
use Rattle.bitvec_move.proofs.SwapLaws.{SwapsWindows-joined, beside-tail}
use Rattle.bitvec_words.specs.TouchedLaws.{touched-full, touched-more}
use Rattle.bitvec_words.specs.MovedPlaceLaws.{tail-inside, tail-part, whole-span}
use Rattle.bitvec_move.proofs.MoveLemmas.{SwapsWindows-same}
use Rattle.std.proofs.lemmas.Nat.{div-add-mod'}
use Rattle.bitvec_move.proofs.swapping_equal.swap_aligned.Goals as goal

pub swap_whole-requires : goal.swap_whole-requires
swap_whole-requires g c = rw (c.whole_elements-first.ensures, c.element-source.ensures) (whole-span g.met.C.Elem.BitStore.width_law c.requires.span c.requires.edge c.requires.right_edge)

pub swap_part-requires-clause-part : goal.swap_part-requires-clause-part
swap_part-requires-clause-part g c = rw c.tail_part-tail.ensures (tail-part _ _ g.met.C.Elem.BitStore.width_law c.requires.span.window (omega arith) (let left = rw c.tail_part-tail.ensures at c.if-tail-eq0.false in omega arith) c.swap_whole.ensures.swaps.writes.elements)

pub swap_part-requires-clause-source : goal.swap_part-requires-clause-source
swap_part-requires-clause-source g c =
    let inside = tail-inside c.args.left_window.len g.met.C.Elem.BitStore.width_law refl c.requires.span.beside (omega arith) (let left = rw c.tail_part-tail.ensures at c.if-tail-eq0.false in omega arith) in
    rw c.whole_elements-first.ensures (omega arith)

pub returns-then-tail-eq0-clause-cost : goal.returns-then-tail-eq0-clause-cost
returns-then-tail-eq0-clause-cost g c =
    let full = rw c.tail_part-tail.ensures at c.if-tail-eq0.true in
    let all = touched-full g.C.Elem.BitStore.BITS c.args.left_window.start c.args.left_window.len (width_some _ g.met.C.Elem.BitStore.width_law) c.requires.edge full in
    rw all (rw c.whole_elements-first.ensures at c.swap_whole.ensures.cost)

pub returns-then-tail-eq0-clause-right_cost : goal.returns-then-tail-eq0-clause-right_cost
returns-then-tail-eq0-clause-right_cost g c =
    let full = rw (c.tail_part-tail.ensures, c.requires.span.lengths) at c.if-tail-eq0.true in
    let all = touched-full g.C.Elem.BitStore.BITS c.args.right_window.start c.args.right_window.len (width_some _ g.met.C.Elem.BitStore.width_law) c.requires.right_edge full in
    rw (all, ← c.requires.span.lengths) (rw c.whole_elements-first.ensures at c.swap_whole.ensures.right_cost)

pub returns-clause-swaps : goal.returns-clause-swaps
returns-clause-swaps g c =
    let b = g.C.Elem.BitStore.BITS in
    let whole = rw (c.whole_elements-first.ensures, c.element-source.ensures) at c.swap_whole.ensures.swaps in
    let part = rw (c.tail_part-tail.ensures, c.whole_elements-first.ensures, c.element-source.ensures) at c.swap_part.ensures.swaps in
    SwapsWindows-joined c.requires.span.window c.requires.span.beside
    (beside-tail b c.args.left_window c.args.left_window.len c.requires.edge refl)
    (beside-tail b c.args.right_window c.args.left_window.len c.requires.right_edge c.requires.span.lengths)
    whole part

pub returns-clause-cost : goal.returns-clause-cost
returns-clause-cost g c =
    let left = rw c.tail_part-tail.ensures at c.if-tail-eq0.false in
    let all = touched-more g.C.Elem.BitStore.BITS c.args.left_window.start c.args.left_window.len (width_some _ g.met.C.Elem.BitStore.width_law) c.requires.edge (omega arith) in
    let cost = rw c.whole_elements-first.ensures at c.swap_whole.ensures.cost in
    Costs-sum g.C.CellsRead cost c.swap_part.ensures.cost all all

pub returns-clause-right_cost : goal.returns-clause-right_cost
returns-clause-right_cost g c =
    let left = rw (c.tail_part-tail.ensures, c.requires.span.lengths) at c.if-tail-eq0.false in
    let all = touched-more g.C.Elem.BitStore.BITS c.args.right_window.start c.args.right_window.len (width_some _ g.met.C.Elem.BitStore.width_law) c.requires.right_edge (omega arith) in
    let cost = rw (c.whole_elements-first.ensures, c.requires.span.lengths) at c.swap_whole.ensures.right_cost in
    Costs-sum g.D.CellsRead cost c.swap_part.ensures.right_cost all all

pub returns-then-tail-eq0-clause-swaps : goal.returns-then-tail-eq0-clause-swaps
returns-then-tail-eq0-clause-swaps g c =
    let b = g.C.Elem.BitStore.BITS in
    let full = rw c.tail_part-tail.ensures at c.if-tail-eq0.true in
    let place = div-add-mod' c.args.left_window.start b in
    let right_place = div-add-mod' c.args.right_window.start b in
    let parts = div-add-mod' c.args.left_window.len b in
    SwapsWindows-same b c.args.left_window c.args.right_window (omega arith) (omega arith) (omega arith) (omega arith) (rw (c.whole_elements-first.ensures, c.element-source.ensures) at c.swap_whole.ensures.swaps)
