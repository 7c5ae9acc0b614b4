use Rattle.std.proofs.Common.{◌≡◌, ◌/◌, arith, sym}
use Rattle.std.proofs.lemmas.Nat.{div-add-mod'}
use Rattle.bitvec_base.specs.MemoryLaws.{length-element_bits}
use Rattle.bitvec_base.specs.WritesLaws.{Writes-is}
use Rattle.bitvec_words.specs.WordLaws.{take-all, word_whole}
use Rattle.bitvec_words.specs.Elements.{elements_window}
use Rattle.bitvec_words.specs.TouchedLaws.{touched-word}
use Rattle.bitvec_words.specs.WholeLaws.{Writes-same}
use Rattle.bitvec_store.specs.WidthLaws.{width_some}
use Rattle.bitvec_few.proofs.FewLemmas.{few-stored, few-touched}
use Rattle.bitvec_few.proofs.word.store_parts.Goals as goal

pub returns-then-window-BITS-clause-writes : goal.returns-then-window-BITS-clause-writes
returns-then-window-BITS-clause-writes g c =
    Writes-is c.store_short.ensures.writes (few-stored _ g.O.BitOrder.at c.args.window.len (g.C.Elem.BitStore.value c.moved-element.result) c.args.word (omega arith) c.requires.bound c.moved-element.ensures)

pub returns-then-window-BITS-clause-cost : goal.returns-then-window-BITS-clause-cost
returns-then-window-BITS-clause-cost g c =
    let window = c.args.window in
    let few = few-touched g.C.Elem.BitStore.BITS window.start window.len (width_some _ g.met.C.Elem.BitStore.width_law) (omega arith) in
    let cost = c.store_short.ensures.cost in
    record { borrow = cost.borrow; loads = omega arith; stores = cost.stores }

pub returns-else-phase-gt0-clause-cost : goal.returns-else-phase-gt0-clause-cost
returns-else-phase-gt0-clause-cost g c =
    let size : c.args.window.len ≡ 64 = omega arith in
    let cost = c.store_elements.ensures.cost in
    rw (size, touched-word g.C.Elem.BitStore.BITS c.args.window.start g.met.C.Elem.BitStore.width_law (omega arith) (omega arith)) (record { borrow = cost.borrow; loads = omega arith; stores = omega arith })

pub returns-else-phase-gt0-clause-writes : goal.returns-else-phase-gt0-clause-writes
returns-else-phase-gt0-clause-writes g c =
    let b = g.C.Elem.BitStore.BITS in
    let window = c.args.window in
    let whole = word_whole b g.met.C.Elem.BitStore.width_law (omega arith) in let place = div-add-mod' window.start b in
    let wide = length-element_bits 64 g.O.BitOrder.at c.args.word in
    let is = Writes-is (rw c.element.ensures at c.store_elements.ensures.writes) (sym (take-all _ window.len (omega arith))) in
    Writes-same (elements_window b (window.start / b) (64 / b)) window (omega arith) (omega arith) is
