use Rattle.std.proofs.Common.{◌≡◌, ◌-◌, ◌*◌, ◌/◌, ◌%◌, ◌≤◌, arith, refl, ℕ}
use Rattle.std.proofs.Math.Nat.{le_refl}
use Rattle.std.proofs.lemmas.List.{length-set}
use Rattle.std.proofs.lemmas.Nat.{div-add-mod', mod_below}
use Rattle.bitvec_store.specs.WidthLaws.{width_some}
use Rattle.bitvec_base.specs.WritesLaws.{HasWindow-kept}
use Rattle.bitvec_move.proofs.CostSums.{Costs-stored, Costs-sum}
use Rattle.bitvec_move.proofs.SwapLaws.{SwapsWindows-joined, beside-after, beside-tail}
use Rattle.bitvec_words.specs.TouchedLaws.{touched-first, touched-from_full, touched-from_more, touched-full, touched-more}
use Rattle.bitvec_move.proofs.WaitingLaws.{HasWindow-set, behind-element}
use Rattle.bitvec_words.specs.MovedPlaceLaws.{from-inside, from-word, tail-span, whole-span_from, whole-window_from}
use Rattle.bitvec_move.proofs.MoveLemmas.{SwapsWindows-same, place-element}
use Rattle.bitvec_move.proofs.swapping_shifted.swap_rest.Goals as goal

pub swap_across-last-requires : goal.swap_across-last-requires
swap_across-last-requires g c =
    let skipped = c.requires.skipped in
    record {
      span = rw c.of-stretch.ensures (whole-span_from g.met.C.Elem.BitStore.width_law skipped.span skipped.edge);
      inside = rw c.of-stretch.ensures skipped.inside;
      bound = rw c.of-stretch.ensures (mod_below c.args.right_window.start _ (width_some _ g.met.C.Elem.BitStore.width_law));
    }

pub store-requires : goal.store-requires
store-requires g c =
    let has = whole-window_from c.args.left_window.len g.met.C.Elem.BitStore.width_law refl c.requires.skipped.span.beside (omega arith) in
    let here = from-inside _ _ _ _ (c.args.left_window.len / g.C.Elem.BitStore.BITS) has c.requires.skipped.inside (le_refl _) refl in
    rw c.of-stretch.ensures (omega (arith, length-set {A = ℕ}))

pub swap_waiting-end-requires : goal.swap_waiting-end-requires
swap_waiting-end-requires g c =
    let left = rw c.tail_part-tail.ensures at c.if-tail-eq0.false in
    let swaps = c.swap_across-last.ensures.swaps in
    let met = tail-span g.met.C.Elem.BitStore.width_law c.requires.skipped.span (omega arith) swaps.writes.elements in
    rw (c.tail_part-tail.ensures, c.after-behind.ensures, c.whole_bits.ensures.value) (record {
      element = met.element;
      beside = HasWindow-kept _ met.beside (omega (arith, length-set {A = ℕ}));
      lengths = met.lengths;
      some = met.some;
    })

pub returns-then-tail-eq0-clause-cost : goal.returns-then-tail-eq0-clause-cost
returns-then-tail-eq0-clause-cost g c =
    let full = rw c.tail_part-tail.ensures at c.if-tail-eq0.true in
    let all = touched-full g.C.Elem.BitStore.BITS c.args.left_window.start c.args.left_window.len (width_some _ g.met.C.Elem.BitStore.width_law) c.requires.skipped.edge full in
    rw all (rw c.of-stretch.ensures at c.swap_across-last.ensures.cost)

pub returns-then-tail-eq0-clause-right_cost : goal.returns-then-tail-eq0-clause-right_cost
returns-then-tail-eq0-clause-right_cost g c =
    let b = g.C.Elem.BitStore.BITS in
    let full = rw (c.tail_part-tail.ensures, c.requires.skipped.span.lengths) at c.if-tail-eq0.true in
    let all = touched-from_full b c.args.right_window.start c.args.right_window.len (width_some _ g.met.C.Elem.BitStore.width_law) c.requires.skipped.inside full in
    let more = touched-first b c.args.right_window.start c.args.right_window.len (omega arith) in
    let cost = rw (c.of-stretch.ensures, c.requires.skipped.span.lengths) at c.swap_across-last.ensures.right_cost in
    Costs-stored g.D.CellsRead cost c.store.ensures.borrow c.store.ensures.loads c.store.ensures.stores all more

pub returns-clause-swaps : goal.returns-clause-swaps
returns-clause-swaps g c =
    let b = g.C.Elem.BitStore.BITS in
    let span = c.requires.skipped.span in
    let all = div-add-mod' c.args.left_window.len b in
    let fits : c.args.left_window.len / b * b ≤ c.args.right_window.len = omega arith in
    let place = behind-element b c.args.right_window.start (c.args.left_window.len / b) (width_some _ g.met.C.Elem.BitStore.width_law) in
    let whole = rw c.of-stretch.ensures at c.swap_across-last.ensures.swaps in
    let part = rw (c.tail_part-tail.ensures, c.after-behind.ensures, c.whole_bits.ensures.value, place) at c.swap_waiting-end.ensures.swaps in
    rw (c.store-2.ensures.numbers, c.last_element.ensures, c.after-behind.ensures, c.whole_bits.ensures.value)
    (SwapsWindows-joined span.window (HasWindow-set _ _ span.beside)
    (beside-tail b c.args.left_window c.args.left_window.len c.requires.skipped.edge refl)
    (beside-after b c.args.right_window (c.args.left_window.len / b) fits)
    whole part)

pub returns-clause-cost : goal.returns-clause-cost
returns-clause-cost g c =
    let left = rw c.tail_part-tail.ensures at c.if-tail-eq0.false in
    let all = touched-more g.C.Elem.BitStore.BITS c.args.left_window.start c.args.left_window.len (width_some _ g.met.C.Elem.BitStore.width_law) c.requires.skipped.edge (omega arith) in
    let cost = rw c.of-stretch.ensures at c.swap_across-last.ensures.cost in
    Costs-sum g.C.CellsRead cost c.swap_waiting-end.ensures.cost all all

pub returns-clause-right_cost : goal.returns-clause-right_cost
returns-clause-right_cost g c =
    let b = g.C.Elem.BitStore.BITS in
    let left = rw (c.tail_part-tail.ensures, c.requires.skipped.span.lengths) at c.if-tail-eq0.false in
    let lengths = c.requires.skipped.span.lengths in
    let parts = div-add-mod' c.args.right_window.len b in
    let all = touched-from_more b c.args.right_window.start c.args.right_window.len (width_some _ g.met.C.Elem.BitStore.width_law) c.requires.skipped.inside (omega arith) in
    let more = touched-first b c.args.right_window.start c.args.right_window.len (omega arith) in
    let rest : c.args.right_window.len - c.args.right_window.len / b * b ≡ c.args.right_window.len % b = omega arith in
    let whole = rw (c.of-stretch.ensures, lengths) at c.swap_across-last.ensures.right_cost in
    let part = rw (c.after-behind.ensures, c.whole_bits.ensures.value, lengths, rest) at c.swap_waiting-end.ensures.right_cost in
    Costs-stored g.D.CellsRead (Costs-sum g.D.CellsRead whole part all all) c.store-2.ensures.borrow c.store-2.ensures.loads c.store-2.ensures.stores refl more

pub returns-then-tail-eq0-clause-swaps : goal.returns-then-tail-eq0-clause-swaps
returns-then-tail-eq0-clause-swaps g c =
    let b = g.C.Elem.BitStore.BITS in
    let full = rw c.tail_part-tail.ensures at c.if-tail-eq0.true in
    let place = div-add-mod' c.args.left_window.start b in
    let right_place = div-add-mod' c.args.right_window.start b in
    let parts = div-add-mod' c.args.left_window.len b in
    rw (c.store.ensures.numbers, c.of-stretch.ensures)
    (SwapsWindows-same b c.args.left_window c.args.right_window (omega arith) (omega arith) (omega arith) (omega arith)
    (rw c.of-stretch.ensures at c.swap_across-last.ensures.swaps))

pub store-requires-2 : goal.store-requires-2
store-requires-2 g c =
    let left = rw c.tail_part-tail.ensures at c.if-tail-eq0.false in
    let parts = div-add-mod' c.args.left_window.len g.C.Elem.BitStore.BITS in
    rw c.last_element.ensures (place-element _ _ g.met.C.Elem.BitStore.width_law c.requires.skipped.span.beside
    (rw c.after-behind.ensures (omega arith)) (omega (arith, length-set {A = ℕ})))

pub overflow_add-stretch : goal.overflow_add-stretch
overflow_add-stretch g c =
    let has = whole-window_from c.args.left_window.len g.met.C.Elem.BitStore.width_law refl c.requires.skipped.span.beside (omega arith) in
    let below = from-word _ _ _ (c.args.left_window.len / g.C.Elem.BitStore.BITS) g.met.C.Elem.BitStore.width_law has c.requires.skipped.inside (le_refl _) in
    rw c.of-stretch.ensures (omega arith)
