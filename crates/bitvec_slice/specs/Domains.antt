-- What the parts of a view are that is cut at the edges of elements.
use Rattle.std.specs.Prelude.{◌≡◌, ℕ, ◌+◌, ◌-◌, ◌*◌, Bool, List, [], ◌∷◌, ◌++◌, Option, None, Some, slice_range}
use Rattle.bitvec_base.specs.declared.part.Part.{Part}
use Rattle.bitvec_store.specs.declared.store.BitStore.{Ghosts as Store}
use Rattle.bitvec_base.specs.declared.order.BitOrder.{Ghosts as Order}
use Rattle.bitvec_domain.specs.Cuts.{cut_of}
use Rattle.bitvec_domain.specs.Domains.{DomainPieces, bits_of_pieces, pieces_in}
use Rattle.bitvec_domain.specs.declared.cut.Cut.{Cut}
use Rattle.bitvec_domain.specs.declared.cut.Cut.TheVariants.{Inside, Across}
use Rattle.bitvec_slice.specs.Seen.{Seen, shown}
use Rattle.bitvec_slice.specs.Views.{seen, seen_mut}
use Rattle.bitvec_slice.specs.declared.bit_domain.BitDomain.{BitDomain}
use Rattle.bitvec_slice.specs.declared.bit_domain.BitDomain.TheVariants.{Enclave, Region}
use Rattle.bitvec_slice.specs.declared.view.BitSlice.{BitSlice}
use Rattle.bitvec_slice.specs.declared.view_mut.BitSliceMut.{BitSliceMut}

-- What a bit domain shows: one view, or the views of the head, the body and the tail.
pub data Views (T : Type 0) : Type 0 where
  enclave : Seen T → Views T
  region : Seen T → Seen T → Seen T → Views T

-- The bits of the views, one view after the other.
abbrev pub bits_of_views : {T : Type 0} → Views T → List Bool
bits_of_views (enclave view) = view.bits
bits_of_views (region head body tail) = head.bits ++ (body.bits ++ tail.bits)

-- The one view of a bit domain whose bits lie inside an element, if it is such.
abbrev pub enclave_view : {T : Type 0} → Views T → Option (Seen T)
enclave_view (enclave view) = Some view
enclave_view (region head body tail) = None

-- The views of head, body and tail of a bit domain that reaches an element's edge, if it is such.
abbrev pub region_views : {T : Type 0} → Views T → Option (Seen T × (Seen T × Seen T))
region_views (enclave view) = None
region_views (region head body tail) = Some (head, (body, tail))

-- The one view, or the three, in their order.
abbrev pub list_of_views : {T : Type 0} → Views T → List (Seen T)
list_of_views (enclave view) = view ∷ []
list_of_views (region head body tail) = head ∷ body ∷ tail ∷ []

module _ {V : Type 0} where
  -- The one part of a bit domain whose bits lie inside an element, if it is such, as `enclave` of `bitvec`'s `BitDomain` gives it.
  abbrev pub enclave_part : BitDomain V → Option V
  enclave_part (Enclave part) = Some part
  enclave_part (Region head body tail) = None

  -- Head, body and tail of a bit domain that reaches an element's edge, if it is such, as `region` of `bitvec`'s `BitDomain` gives them.
  abbrev pub region_parts : BitDomain V → Option (V × (V × V))
  region_parts (Enclave part) = None
  region_parts (Region head body tail) = Some (head, (body, tail))

  -- The one part, or the three, in their order.
  abbrev pub parts_of : BitDomain V → List V
  parts_of (Enclave part) = part ∷ []
  parts_of (Region head body tail) = head ∷ body ∷ tail ∷ []

  -- What a bit domain's parts show, where `show` says what each part shows.
  abbrev pub views_by : {T : Type 0} → (V → Seen T) → BitDomain V → Views T
  views_by show (Enclave part) = enclave (show part)
  views_by show (Region head body tail) = region (show head) (show body) (show tail)

module _ {T O : Type 0} {t : Store T} {o : Order O} where
  -- What the parts of a `BitDomain` of shared views show.
  abbrev pub views_of : BitDomain (BitSlice T O t o) → Views T
  views_of = views_by seen

  -- What the parts of a `BitDomain` of writable views show.
  abbrev pub views_of_mut : BitDomain (BitSliceMut T O t o) → Views T
  views_of_mut = views_by seen_mut

module _ {T : Type 0} (b : ℕ) (at : ℕ → ℕ → ℕ) (value : T → ℕ) where
  -- A view of the part, which has the part's element and no other.
  abbrev pub view_in : List T → Part → Seen T
  view_in elements part = shown b at value (slice_range elements part.element (part.element + 1)) part.from (part.to - part.from)

  -- A view of the part, if there is one, and else a view of no bit and no element.
  abbrev pub view_in_if : List T → Option Part → Seen T
  view_in_if elements None = shown b at value [] 0 0
  view_in_if elements (Some part) = view_in elements part

  -- The views into which a cut divides these elements.
  abbrev pub views_in : List T → Cut → Views T
  views_in elements (Inside part) = enclave (view_in elements part)
  views_in elements (Across before start end after) =
      region (view_in_if elements before) (shown b at value (slice_range elements start end) 0 (b * (end - start))) (view_in_if elements after)

  -- The views are those that the view is cut into, and their bits, one after the other, are its own.
  pub record IsBitDomain (view : Seen T) (views : Views T) : Type 0 where
    pub parts : views ≡ views_in view.elements (cut_of b view.window)
    pub bits : bits_of_views views ≡ view.bits

  -- The pieces are those that the view is cut into, and their bits, one after the other, are its own.
  pub record IsDomain (view : Seen T) (pieces : DomainPieces T) : Type 0 where
    pub parts : pieces ≡ pieces_in b at value view.elements (cut_of b view.window)
    pub bits : bits_of_pieces b at value pieces ≡ view.bits
