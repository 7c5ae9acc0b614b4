use Rattle.std.proofs.Common.{ℕ, List, [], ◌∷◌, ◌++◌, length, Some, is_some, sym, ap, refl, ◌∙◌}
use Rattle.std.proofs.lemmas.List.{map-append}
use Rattle.std.proofs.lemmas.Iterator.Consumers.{YieldsList-turn, YieldsList-end}
use Rattle.std.specs.Option.{option_map}
use Rattle.bitdo_work.specs.Elements.{element_of, elements_of}
use Rattle.bitdo_work.proofs.ReadLaws.{read_each-nil, read_each-push, read_each-bad}
use Rattle.bitdo_work.proofs.SplitLaws.{YieldsList-from_commas}
use Rattle.bitdo_work.proofs.elements.parse_elements.Goals as goal

pub returns-then-eq-clause-notation : goal.returns-then-eq-clause-notation
unfolding elements_of
returns-then-eq-clause-notation g c = rw (← c.if-eq.ensures) refl

pub returns-then-eq-clause-read : goal.returns-then-eq-clause-read
unfolding elements_of
returns-then-eq-clause-read g c = rw (← c.if-eq.ensures, c.new-elements.ensures.items) refl

pub loop-word-init : goal.loop-word-init
loop-word-init g c = ([], read_each-nil _, λ room. rw c.new-elements.ensures.items refl)

pub returns-in_err-element-clause-notation : goal.returns-in_err-element-clause-notation
unfolding elements_of
returns-in_err-element-clause-notation g c =
    let split = c.split-word-items.ensures in
    let pieces = YieldsList-from_commas c.args.text.now c.into_iter-word-iterator.ensures.into_iter_gives split.text split.has_more split.pattern in
    let t = YieldsList-turn pieces c.loop-word.yielded _ c.loop-word.yielded_by _ _ c.in-Some.word c.in-Some.is c.next.ensures.steps in
    let bad = sym c.parse_element.ensures ∙ ap (option_map g.T.BitStore.value) c.in_err-element.was in
    rw (c.from_residual.ensures, ← c.if-eq.ensures) (ap is_some (sym (read_each-bad (element_of g.T.BitStore.BITS) _ (length c.loop-word.yielded) c.in-Some.word.now t.0 t.1 bad)))

pub loop-word-preserved : goal.loop-word-preserved
loop-word-preserved g c =
    let inv = c.loop-word.invariant in
    let v = g.T.BitStore.value c.in_ok-element.element in
    let one = sym c.parse_element.ensures ∙ ap (option_map g.T.BitStore.value) c.in_ok-element.was in
    (inv.0 ++ v ∷ [], simp map-append (read_each-push (element_of g.T.BitStore.BITS) _ _ c.in-Some.word.now v inv.1 one), λ room. absurd (cc (c.if-has_room.false, room)))

pub loop-word-preserved-then-has_room : goal.loop-word-preserved-then-has_room
loop-word-preserved-then-has_room g c =
    let inv = c.loop-word.invariant in
    let v = g.T.BitStore.value c.in_ok-element.element in
    let one = sym c.parse_element.ensures ∙ ap (option_map g.T.BitStore.value) c.in_ok-element.was in (
      inv.0 ++ v ∷ [],
      simp map-append (read_each-push (element_of g.T.BitStore.BITS) _ _ c.in-Some.word.now v inv.1 one),
      λ room.
          let ok = sym c.is_ok-has_room.ensures.value ∙ room in
          rw (c.push.ensures.items, ok) (simp map-append (ap (λ (l : List ℕ). l ++ v ∷ []) (inv.2 c.if-has_room.true))),
    )

pub returns-then-has_room-2-clause-notation : goal.returns-then-has_room-2-clause-notation
unfolding elements_of
returns-then-has_room-2-clause-notation g c =
    let split = c.split-word-items.ensures in
    let pieces = YieldsList-from_commas c.args.text.now c.into_iter-word-iterator.ensures.into_iter_gives split.text split.has_more split.pattern in
    let t = YieldsList-end pieces c.loop-word.yielded _ c.loop-word.yielded_by _ _ c.in-None.is c.next.ensures.steps in
    rw (← c.if-eq.ensures, ← t.0) (sym (ap is_some c.loop-word.invariant.1))

pub returns-then-has_room-2-clause-read : goal.returns-then-has_room-2-clause-read
unfolding elements_of
returns-then-has_room-2-clause-read g c =
    let split = c.split-word-items.ensures in
    let pieces = YieldsList-from_commas c.args.text.now c.into_iter-word-iterator.ensures.into_iter_gives split.text split.has_more split.pattern in
    let t = YieldsList-end pieces c.loop-word.yielded _ c.loop-word.yielded_by _ _ c.in-None.is c.next.ensures.steps in
    rw (← c.if-eq.ensures, ← t.0) (c.loop-word.invariant.1 ∙ ap Some (sym (c.loop-word.invariant.2 c.if-has_room-2.true)))

pub returns-else-has_room-2-clause-notation : goal.returns-else-has_room-2-clause-notation
unfolding elements_of
returns-else-has_room-2-clause-notation g c =
    let split = c.split-word-items.ensures in
    let pieces = YieldsList-from_commas c.args.text.now c.into_iter-word-iterator.ensures.into_iter_gives split.text split.has_more split.pattern in
    let t = YieldsList-end pieces c.loop-word.yielded _ c.loop-word.yielded_by _ _ c.in-None.is c.next.ensures.steps in
    rw (← c.if-eq.ensures, ← t.0) (sym (ap is_some c.loop-word.invariant.1))
