-- What contracts see of a part of one element, which both types of parts show.
use Rattle.std.specs.Prelude.{◌≡◌, ℕ, Bool, List, slice_range}
use Rattle.std.specs.Borrow.{GName}
use Rattle.bitvec_base.specs.Memory.{element_bits}
use Rattle.bitvec_base.specs.Window.{write_at}
use Rattle.bitvec_store.specs.declared.store.BitStore.{Ghosts as Store}
use Rattle.bitvec_base.specs.declared.order.BitOrder.{Ghosts as Order}
use Rattle.bitvec_domain.specs.declared.part.PartialElement.{PartialElement}
use Rattle.bitvec_domain.specs.declared.part_mut.PartialElementMut.{PartialElementMut}

-- A part of an element: the element's number, the index of its first bit, that past its last bit, and the bits between.
pub record SeenPart : Type 0 where
  pub number : ℕ
  pub head : ℕ
  pub tail : ℕ
  pub bits : List Bool

-- The part of an element with this number whose bits stand from the index `head` up to, without, `tail`.
abbrev pub partial_at : ℕ → (ℕ → ℕ → ℕ) → ℕ → ℕ → ℕ → SeenPart
partial_at b at number head tail = record { number = number; head = head; tail = tail; bits = slice_range (element_bits b at number) head tail }

module _ {T O : Type 0} {t : Store T} {o : Order O} where
  -- What a part that is read shows.
  abbrev pub seen_part : PartialElement T O t o → SeenPart
  seen_part p = partial_at t.BITS o.at (t.value p.element.now) p.head p.tail

  -- What a part that is written shows.
  abbrev pub seen_part_mut : PartialElementMut T O t o → SeenPart
  seen_part_mut p = partial_at t.BITS o.at (t.value p.element.now) p.head p.tail

  -- The name among borrows of the element that a written part borrows.
  abbrev pub name_of_part : PartialElementMut T O t o → GName
  name_of_part p = p.element.ghost_name

  -- the part `after` is the part `before` with the bits `new`: the element has them there, and its
  -- other bits, the indices and the element that is borrowed stay
  pub record WritesPart (before after : PartialElementMut T O t o) (new : List Bool) : Type 0 where
    pub bits : (seen_part_mut after).bits ≡ new
    pub element : element_bits t.BITS o.at (seen_part_mut after).number ≡ write_at (element_bits t.BITS o.at (seen_part_mut before).number) (seen_part_mut before).head new
    pub head : (seen_part_mut after).head ≡ (seen_part_mut before).head
    pub tail : (seen_part_mut after).tail ≡ (seen_part_mut before).tail
    pub name : name_of_part after ≡ name_of_part before
