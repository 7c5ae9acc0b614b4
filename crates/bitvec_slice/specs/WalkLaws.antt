-- The first and the last of the bits that are still to come, and how many they are.
use Rattle.std.specs.Prelude.{◌≡◌, ◌+◌, ◌-◌, ◌<◌, ◌≤◌, [], ◌∷◌, ◌++◌, false, length, refl, slice_index_or, slice_range}
use Rattle.std.proofs.Common.{ap, arith, sym}
use Rattle.std.proofs.iter.Rest.{range_last, run_of_first, run_of_first_by, run_of_last, run_of_last_by}
use Rattle.std.proofs.iter.runs.Sources.{from_back, from_front}
use Rattle.bitvec_base.specs.SliceLaws.{range-front, range-none}
use Rattle.bitvec_base.specs.WriteLaws.{length-slice_range}
use Rattle.bitvec_store.specs.declared.store.BitStore.{Ghosts as Store}
use Rattle.bitvec_base.specs.declared.order.BitOrder.{Ghosts as Order}
use Rattle.bitvec_slice.specs.SeenLaws.{length_bits}
use Rattle.bitvec_slice.specs.Views.{seen}
use Rattle.bitvec_domain.specs.References.{bit_of_ref}
use Rattle.bitvec_slice.specs.Walks.{TakesFirst, TakesLast, YieldsBits, YieldsRefs, YieldsVals, refs_left, remaining_bits, vals_left}
use Rattle.bitvec_slice.specs.declared.bit_iters.BitRefIter.{BitRefIter}
use Rattle.bitvec_slice.specs.declared.bit_iters.BitValIter.{BitValIter}
use Rattle.bitvec_slice.specs.declared.iter.Iter.{Iter}

module _ {T O : Type 0} {t : Store T} {o : Order O} (it : Iter T O t o) where
  long : it.indices.end ≤ length (seen it.view).bits
  long = let len = length_bits t.BITS o.at t.value it.view.elements.now it.view.head it.view.len it.view.inside in
      let inside = it.inside in omega arith

  -- The bits that a walk has still to give are the range of its view's bits from its start to its end.
  pub left : remaining_bits it ≡ slice_range (seen it.view).bits it.indices.start it.indices.end
  unfolding remaining_bits
  left = refl

  -- A walk whose start isn't before its end has no bits to give.
  pub left_none : it.indices.end ≤ it.indices.start → remaining_bits it ≡ []
  unfolding remaining_bits
  left_none none = range-none (seen it.view).bits it.indices.start it.indices.end none

  -- The first of the bits still to give is the one at the walk's start, and the others are those behind it.
  pub left_first : it.indices.start < it.indices.end
      → remaining_bits it ≡ slice_index_or (seen it.view).bits it.indices.start false ∷ slice_range (seen it.view).bits (it.indices.start + 1) it.indices.end
  unfolding remaining_bits
  left_first some = sym (range-front (seen it.view).bits it.indices.start it.indices.end false some long)

  -- The last of the bits still to give is the one before the walk's end, and the others are those before it.
  pub left_last : it.indices.start < it.indices.end
      → remaining_bits it ≡ slice_range (seen it.view).bits it.indices.start (it.indices.end - 1) ++ slice_index_or (seen it.view).bits (it.indices.end - 1) false ∷ []
  unfolding remaining_bits
  left_last some = range_last (seen it.view).bits it.indices.start it.indices.end false some long

  -- A walk has as many bits to give as its end is behind its start.
  pub left_length : length (remaining_bits it) ≡ it.indices.end - it.indices.start
  unfolding remaining_bits
  left_length = length-slice_range (seen it.view).bits it.indices.start it.indices.end long

-- These laws tell what a walk over bits has still to give: its first bit, its last one, and their number.
pub ruleset stepping = (left, left_none, left_first, left_last, left_length)

module _ {T O : Type 0} {t : Store T} {o : Order O} where
  -- A walk gives its bits as references, from the front and from the back.
  pub bits_yielded : (it : Iter T O t o) → YieldsBits it
  bits_yielded it = record {
    front = from_front TakesFirst bit_of_ref remaining_bits (λ s r h. ap length h.0.0) (λ s x r h. h.0);
    back = from_back TakesLast bit_of_ref remaining_bits (λ s r h. ap length h.0.0) (λ s x r h. h.0);
  }

  -- A walk by references gives its bits, from the front and from the back.
  pub refs_yielded : (it : BitRefIter T O t o) → YieldsRefs it
  refs_yielded it = record { front = λ p _. (run_of_first_by (λ bit. bit.now) refs_left p).1; back = λ p _. (run_of_last_by (λ bit. bit.now) refs_left p).1 }

  -- A walk by values gives its bits, from the front and from the back.
  pub vals_yielded : (it : BitValIter T O t o) → YieldsVals it
  vals_yielded it = record { front = λ p _. (run_of_first vals_left p).1; back = λ p _. (run_of_last vals_left p).1 }
