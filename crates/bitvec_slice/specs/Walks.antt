-- What a walk over the bits of a view has still to give.
use Rattle.std.specs.Prelude.{◌≡◌, ℕ, ◌+◌, ◌-◌, Bool, List, Option, max, min, slice_range}
use Rattle.std.specs.Iterator.{YieldsFirst, YieldsFirstBy, YieldsFirstRef, YieldsLast, YieldsLastBy, YieldsLastRef}
use Rattle.std.specs.Iterator.Runs.{EveryRun, ItemsAre, ItemsAreReversed, ItemsMapTo, ItemsMapToReversed}
use Rattle.std.specs.declared.ops.Range.{Range}
use Rattle.bitvec_store.specs.declared.store.BitStore.{Ghosts as Store}
use Rattle.bitvec_base.specs.declared.order.BitOrder.{Ghosts as Order}
use Rattle.bitvec_domain.specs.References.{bit_of_ref}
use Rattle.bitvec_domain.specs.declared.reference.BitRef.{BitRef}
use Rattle.bitvec_slice.specs.Seen.{Seen}
use Rattle.bitvec_slice.specs.Views.{seen}
use Rattle.bitvec_slice.specs.declared.iter.Iter.{Iter}
use Rattle.bitvec_slice.specs.declared.bit_iters.BitRefIter.{BitRefIter}
use Rattle.bitvec_slice.specs.declared.bit_iters.BitValIter.{BitValIter}

module _ {T O : Type 0} {t : Store T} {o : Order O} where
  -- The view over whose bits the walk goes.
  abbrev pub walked : Iter T O t o → Seen T
  walked it = seen it.view

  -- The range of the indices, in the view, of the bits that a walk has still to give.
  abbrev pub index_range : Iter T O t o → Range ℕ
  index_range it = it.indices

  -- The bits that a walk has still to give, in order.
  unfoldable pub remaining_bits : Iter T O t o → List Bool
  remaining_bits it = slice_range (seen it.view).bits it.indices.start it.indices.end

  -- it goes over this view, whose bits from the index `from` up to, without, `to` are still to come
  pub record Walks (it : Iter T O t o) (whole : Seen T) (from to : ℕ) : Type 0 where
    pub view : walked it ≡ whole
    pub start : (index_range it).start ≡ from
    pub end : (index_range it).end ≡ to

  -- A call gave the first of the bits still to come and left the others, or gave `None` where there were none.
  abbrev pub TakesFirst : Iter T O t o → Option (BitRef T O) → Iter T O t o → Type 0
  TakesFirst before bit after =
      let range = index_range before in
      YieldsFirstBy (bit_of_ref {T = T} {O = O}) remaining_bits before bit after × Walks after (walked before) (min (range.start + 1) range.end) range.end

  -- A call gave the last of the bits still to come and left the others, or gave `None` where there were none.
  abbrev pub TakesLast : Iter T O t o → Option (BitRef T O) → Iter T O t o → Type 0
  TakesLast before bit after =
      let range = index_range before in
      YieldsLastBy (bit_of_ref {T = T} {O = O}) remaining_bits before bit after × Walks after (walked before) range.start (max range.start (range.end - 1))

  -- The two walks go over the same view and have the same bits still to come.
  pub record IsSameWalk (first second : Iter T O t o) : Type 0 where
    pub bits : remaining_bits second ≡ remaining_bits first
    pub view : walked second ≡ walked first
    pub indices : index_range second ≡ index_range first

  -- The bits that a walk by references has still to give.
  abbrev pub refs_left : BitRefIter T O t o → List Bool
  refs_left it = remaining_bits it.bits

  -- The bits that a walk by values has still to give.
  abbrev pub vals_left : BitValIter T O t o → List Bool
  vals_left it = remaining_bits it.bits

  -- What calls of `next`, or of `next_back`, give is what is still to come, in its order, or from its end.
  pub record YieldsBits (it : Iter T O t o) : Type 0 where
    pub front : EveryRun TakesFirst (λ p. ItemsMapTo p bit_of_ref (remaining_bits p.from))
    pub back : EveryRun TakesLast (λ p. ItemsMapToReversed p bit_of_ref (remaining_bits p.from))

  -- What calls of `next`, or of `next_back`, give of a walk by references is what is still to come, in its order, or from its end.
  pub record YieldsRefs (it : BitRefIter T O t o) : Type 0 where
    pub front : EveryRun (YieldsFirstRef refs_left) (λ p. ItemsMapTo p (λ bit. bit.now) (refs_left p.from))
    pub back : EveryRun (YieldsLastRef refs_left) (λ p. ItemsMapToReversed p (λ bit. bit.now) (refs_left p.from))

  -- What calls of `next`, or of `next_back`, give of a walk by values is what is still to come, in its order, or from its end.
  pub record YieldsVals (it : BitValIter T O t o) : Type 0 where
    pub front : EveryRun (YieldsFirst vals_left) (λ p. ItemsAre p (vals_left p.from))
    pub back : EveryRun (YieldsLast vals_left) (λ p. ItemsAreReversed p (vals_left p.from))
