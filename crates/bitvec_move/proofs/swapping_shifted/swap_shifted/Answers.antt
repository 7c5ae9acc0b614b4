use Rattle.std.proofs.Common.{◌≡◌, ◌≤◌, ℕ, ◌+◌, ◌-◌, arith, rules, ap, refl, length}
use Rattle.std.proofs.lemmas.List.{set-get_or, length-set}
use Rattle.std.proofs.lemmas.Nat.{mod_below}
use Rattle.bitvec_store.specs.WidthLaws.{width_some}
use Rattle.bitvec_cells.specs.Cost.{touched_count}
use Rattle.bitvec_move.proofs.CostSums.{Costs-around, Costs-sum, Costs-waiting}
use Rattle.bitvec_move.proofs.SwapLaws.{SwapsWindows-joined, beside-head, beside-parted}
use Rattle.bitvec_words.specs.TouchedLaws.{apart_edge, inside_element, touched-first, touched-head, touched-inside, touched-rest}
use Rattle.bitvec_move.proofs.WithinLaws.{part-first}
use Rattle.bitvec_words.specs.MovedPlaceLaws.{behind-edge, head-element, head-part}
use Rattle.bitvec_move.proofs.MoveLemmas.{place-element}
use Rattle.bitvec_move.proofs.swapping_shifted.swap_shifted.Goals as goal

pub load-waiting-requires : goal.load-waiting-requires
load-waiting-requires g c = rw c.element.ensures (head-element g.met.C.Elem.BitStore.width_law refl (omega arith) c.requires.span.beside)

pub swap_waiting-last-requires : goal.swap_waiting-last-requires
swap_waiting-last-requires g c = record {
  element = head-part _ _ _ c.args.left_window _ g.met.C.Elem.BitStore.width_law refl c.head_of-passed.ensures.part c.requires.some c.requires.span.window;
  beside = search rules;
  lengths = search rules;
  some = search rules;
}

pub swap_rest-requires-clause-skipped : goal.swap_rest-requires-clause-skipped
swap_rest-requires-clause-skipped g c = record {
  span = search rules;
  edge = behind-edge _ c.args.left_window g.met.C.Elem.BitStore.width_law c.after-rest.ensures c.head_of-passed.ensures.long c.if-passed-left_window.false;
  inside = rw c.after-behind.ensures (apart_edge g.C.Elem.BitStore.BITS c.args.left_window.start c.args.right_window.start c.head_of-passed.result.1 c.args.left_window.len (width_some _ g.met.C.Elem.BitStore.width_law) c.head_of-passed.ensures.long c.if-passed-left_window.false c.requires.phases);
}

pub returns-then-passed-left_window-clause-cost : goal.returns-then-passed-left_window-clause-cost
returns-then-passed-left_window-clause-cost g c =
    let b = g.C.Elem.BitStore.BITS in
    let one = touched-head b c.args.left_window.start c.head_of-passed.result.1 c.args.left_window.len (width_some _ g.met.C.Elem.BitStore.width_law) c.requires.some c.head_of-passed.ensures.long in
    let all = ap (touched_count b c.args.left_window.start) c.if-passed-left_window.true in
    rw (← all, one) c.swap_waiting-last.ensures.cost

pub returns-then-passed-left_window-clause-right_cost : goal.returns-then-passed-left_window-clause-right_cost
returns-then-passed-left_window-clause-right_cost g c =
    let long : c.args.right_window.len - (c.args.right_window.len - c.head_of-passed.result.1) ≡ c.args.right_window.len = omega arith in
    let more = touched-first g.C.Elem.BitStore.BITS c.args.right_window.start c.args.right_window.len (omega arith) in
    let head = rw (c.until-met.ensures, long) at c.swap_waiting-last.ensures.right_cost in
    Costs-around g.D.CellsRead c.load-waiting.ensures.borrow c.load-waiting.ensures.loads c.load-waiting.ensures.stores head c.store.ensures.borrow c.store.ensures.loads c.store.ensures.stores more

pub returns-clause-swaps : goal.returns-clause-swaps
returns-clause-swaps g c =
    let b = g.C.Elem.BitStore.BITS in
    let some = width_some _ g.met.C.Elem.BitStore.width_law in
    let fits : c.head_of-passed.result.1 ≤ c.args.right_window.len = omega arith in
    let inside = apart_edge b c.args.left_window.start c.args.right_window.start c.head_of-passed.result.1 c.args.left_window.len some c.head_of-passed.ensures.long c.if-passed-left_window.false c.requires.phases in
    let same = inside_element b c.args.right_window.start c.head_of-passed.result.1 some inside in
    let met : c.args.right_window.len - (c.args.right_window.len - c.head_of-passed.result.1) ≡ c.head_of-passed.result.1 = omega arith in
    let first = rw (c.head_of-passed.ensures.part, c.until-met.ensures, c.load-waiting.ensures.numbers, c.load-waiting.ensures.value, c.element.ensures, set-get_or, met, same) at c.swap_waiting-last.ensures.swaps in
    let rest = rw (c.after-rest.ensures, c.after-behind.ensures) at c.swap_rest.ensures.swaps in
    SwapsWindows-joined c.requires.span.window c.requires.span.beside
    (beside-head b c.args.left_window c.args.left_window c.head_of-passed.result.1 some c.requires.some c.head_of-passed.ensures.long refl refl)
    (rw met at (beside-parted c.args.right_window c.head_of-passed.result.1 fits))
    first rest

pub returns-clause-cost : goal.returns-clause-cost
returns-clause-cost g c =
    let all = touched-rest g.C.Elem.BitStore.BITS c.args.left_window.start c.head_of-passed.result.1 c.args.left_window.len (width_some _ g.met.C.Elem.BitStore.width_law) c.requires.some c.head_of-passed.ensures.long c.if-passed-left_window.false in
    let rest = rw c.after-rest.ensures at c.swap_rest.ensures.cost in
    Costs-sum g.C.CellsRead c.swap_waiting-last.ensures.cost rest all all

pub returns-clause-right_cost : goal.returns-clause-right_cost
returns-clause-right_cost g c =
    let b = g.C.Elem.BitStore.BITS in
    let some = width_some _ g.met.C.Elem.BitStore.width_law in
    let inside = apart_edge b c.args.left_window.start c.args.right_window.start c.head_of-passed.result.1 c.args.left_window.len some c.head_of-passed.ensures.long c.if-passed-left_window.false c.requires.phases in
    let head = mod_below c.args.left_window.start b some in
    let whole : c.head_of-passed.result.1 + (c.args.right_window.len - c.head_of-passed.result.1) ≡ c.args.right_window.len = omega arith in
    let all = rw whole at (touched-inside b c.args.right_window.start c.head_of-passed.result.1 (c.args.right_window.len - c.head_of-passed.result.1) some (omega arith) inside) in
    let met : c.args.right_window.len - (c.args.right_window.len - c.head_of-passed.result.1) ≡ c.head_of-passed.result.1 = omega arith in
    let front = touched-first b c.args.right_window.start c.head_of-passed.result.1 (omega arith) in
    let behind = touched-first b (c.args.right_window.start + c.head_of-passed.result.1) (c.args.right_window.len - c.head_of-passed.result.1) (omega arith) in
    let first = rw (c.until-met.ensures, met) at c.swap_waiting-last.ensures.right_cost in
    let rest = rw c.after-behind.ensures at c.swap_rest.ensures.right_cost in
    Costs-waiting g.D.CellsRead c.load-waiting.ensures.borrow c.load-waiting.ensures.loads c.load-waiting.ensures.stores first rest all front behind

pub returns-then-passed-left_window-clause-swaps : goal.returns-then-passed-left_window-clause-swaps
returns-then-passed-left_window-clause-swaps g c =
    let b = g.C.Elem.BitStore.BITS in
    let some = width_some _ g.met.C.Elem.BitStore.width_law in
    let below = mod_below c.args.left_window.start b some in
    let place = part-first b c.args.left_window (omega arith) in
    let long : c.args.right_window.len - (c.args.right_window.len - c.head_of-passed.result.1) ≡ c.args.right_window.len = omega arith in
    let first = rw (c.head_of-passed.ensures.part, place, c.until-met.ensures, c.load-waiting.ensures.numbers, c.load-waiting.ensures.value, c.element.ensures, set-get_or, long) at c.swap_waiting-last.ensures.swaps in
    rw (c.store.ensures.numbers, c.last_element.ensures, c.until-met.ensures, long) first

pub store-requires : goal.store-requires
store-requires g c =
    let loaded = ap length c.load-waiting.ensures.numbers in
    rw c.last_element.ensures (place-element _ _ g.met.C.Elem.BitStore.width_law c.requires.span.beside (rw c.until-met.ensures (omega arith)) (omega (arith, length-set {A = ℕ})))
