-- The chunks of a view, joined, are its bits, and what they count together is what it counts.
use Rattle.std.specs.Prelude.{◌≡◌, ℕ, ◌<◌, ◌≤◌, Bool, cond, count_by, refl, sum_by}
use Rattle.std.specs.List.{flat_map}
use Rattle.std.proofs.Common.{arith, ◌∙◌, ap, sym}
use Rattle.std.proofs.lemmas.List.Sums.{count_by-le-length}
use Rattle.bitvec_store.specs.declared.store.BitStore.{Ghosts as Store}
use Rattle.bitvec_base.specs.declared.order.BitOrder.{Ghosts as Order}
use Rattle.bitvec_base.specs.Window.{max_bits}
use Rattle.bitvec_cutting.specs.ChunkLaws.{pieces_joined, sum_joined}
use Rattle.bitvec_cutting.specs.Cutting.{chunk, chunk_count}
use Rattle.bitvec_slice.specs.Seen.{Seen}
use Rattle.bitvec_slice.specs.ShowingLaws.{few-seen, length-seen}
use Rattle.bitvec_slice.specs.Views.{seen}
use Rattle.bitvec_slice.specs.declared.view.BitSlice.{BitSlice}
use Rattle.bitvec_iter.specs.Parts.{parts_of, subview}

module _ {T O : Type 0} {t : Store T} {o : Order O} (view : BitSlice T O t o) (size : ℕ) (some : 0 < size) where
  -- The bits of a view's chunks, joined, are the view's bits.
  pub parts_joined : flat_map (λ piece. piece.bits) (parts_of t.BITS (seen view) (chunk_count size) (chunk size)) ≡ (seen view).bits
  parts_joined =
      pieces_joined (λ piece. piece.bits) (λ number. subview t.BITS (seen view) (chunk size (seen view).window.len number)) size (seen view).window.len (seen view).bits some
      (length-seen view)
      (λ number. refl)

  -- The bits that pass a test, counted in each of a view's chunks, are together those of the view.
  pub parts_counted : (test : Bool → Bool) → sum_by (λ piece. count_by test piece.bits) (parts_of t.BITS (seen view) (chunk_count size) (chunk size)) ≡ count_by test (seen view).bits
  parts_counted test = sym (sum_joined (λ (bit : Bool). cond (test bit) 1 0) (λ (piece : Seen T). piece.bits) (parts_of t.BITS (seen view) (chunk_count size) (chunk size))) ∙ ap (count_by test) parts_joined

module _ {T O : Type 0} {t : Store T} {o : Order O} (view : BitSlice T O t o) where
  -- At most `max_bits` bits of a view pass a test.
  pub few_counted : (test : Bool → Bool) → count_by test (seen view).bits ≤ max_bits
  few_counted test =
      let count = count_by-le-length test (seen view).bits in
      let len = length-seen view in
      let few = few-seen view in
      omega arith

-- These laws tell that the chunks of a view keep its bits and what is counted of them.
pub ruleset joining = (parts_joined, parts_counted, few_counted)
