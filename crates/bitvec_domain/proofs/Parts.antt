-- Parts of elements: their bits after their element was written, and among some of the elements.
use Rattle.std.specs.Prelude.{◌≡◌, ℕ, ◌+◌, ◌-◌, ◌≤◌, Bool, List, Option, None, Some, IfSome, drop, length, take, refl}
use Rattle.std.proofs.Common.{arith, sym, ap}
use Rattle.std.proofs.lemmas.List.{drop-map, places, take-map}
use Rattle.bitvec_base.specs.Memory.{element_bits}
use Rattle.bitvec_base.specs.MemoryLaws.{length-element_bits}
use Rattle.bitvec_base.specs.Window.{write_at}
use Rattle.bitvec_base.specs.WriteLaws.{range-write_at}
use Rattle.bitvec_store.specs.declared.store.BitStore.{Ghosts as Store}
use Rattle.bitvec_base.specs.declared.order.BitOrder.{Ghosts as Order}
use Rattle.bitvec_domain.specs.Cuts.{IsHeadWithin, IsTailWithin, part_if_from}
use Rattle.bitvec_domain.specs.Domains.{part_in_if}
use Rattle.bitvec_domain.specs.Parts.{WritesPart, partial_at}
use Rattle.bitvec_domain.specs.declared.part_mut.PartialElementMut.{PartialElementMut}

pub writes_part : {T O : Type 0} {t : Store T} {o : Order O} (p : PartialElementMut T O t o) {q : PartialElementMut T O t o} {new : List Bool} → q.head ≡ p.head → q.tail ≡ p.tail → q.element.ghost_name ≡ p.element.ghost_name → length new ≡ p.tail - p.head
    → element_bits t.BITS o.at (t.value q.element.now) ≡ write_at (element_bits t.BITS o.at (t.value p.element.now)) p.head new → WritesPart p q new
writes_part {t = t} {o = o} p {q} {new} head tail name long wrote =
    let ordered = p.ordered in
    let inside = p.inside in
    let old = element_bits t.BITS o.at (t.value p.element.now) in
    let whole = length-element_bits t.BITS o.at (t.value p.element.now) in
    let end : p.tail ≡ p.head + length new = omega arith in
    record { bits = rw (head, tail, wrote, end) (range-write_at old p.head new (omega arith)); element = wrote; head = head; tail = tail; name = name }

-- a head among the elements before the whole ones, and a tail among those behind them, are the same parts of all elements
module _ {T : Type 0} (b : ℕ) (at : ℕ → ℕ → ℕ) (value : T → ℕ) (xs : List T) where
  pub head_part : (start end : ℕ) (head : Option _) → start ≤ end → end ≤ length xs → IfSome head (IsHeadWithin b (length xs) start)
      → part_in_if b at value (take start (take end xs)) (part_if_from 0 head) ≡ part_in_if b at value xs head
  head_part start end None order bound is = refl
  head_part start end (Some part) order bound is =
      let next = is.next in
      ap (λ (n : ℕ). Some (partial_at b at n part.from part.to)) (rw (sym (take-map value start (take end xs)), sym (take-map value end xs)) (grind (arith, places)))

  pub tail_part : (end : ℕ) (tail : Option _) → IfSome tail (IsTailWithin b (length xs) end) → part_in_if b at value (drop end xs) (part_if_from end tail) ≡ part_in_if b at value xs tail
  tail_part end None is = refl
  tail_part end (Some part) is =
      let next = is.next in
      let there = is.within.element in
      ap (λ (n : ℕ). Some (partial_at b at n part.from part.to)) (rw (sym (drop-map value end xs)) (grind (arith, places)))
