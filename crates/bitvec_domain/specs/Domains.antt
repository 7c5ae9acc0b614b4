-- What the parts of a range of bits are, by the elements that it touches.
use Rattle.std.specs.Prelude.{ℕ, Bool, List, [], ◌++◌, Option, None, Some, map, slice_index, slice_range}
use Rattle.bitvec_base.specs.Memory.{memory_bits}
use Rattle.bitvec_base.specs.declared.part.Part.{Part}
use Rattle.bitvec_store.specs.declared.store.BitStore.{Ghosts as Store}
use Rattle.bitvec_base.specs.declared.order.BitOrder.{Ghosts as Order}
use Rattle.bitvec_domain.specs.Parts.{SeenPart, partial_at, seen_part, seen_part_mut}
use Rattle.bitvec_domain.specs.declared.cut.Cut.{Cut}
use Rattle.bitvec_domain.specs.declared.cut.Cut.TheVariants.{Inside, Across}
use Rattle.bitvec_domain.specs.declared.domain.Domain.{Domain}
use Rattle.bitvec_domain.specs.declared.domain.Domain.TheVariants.{Enclave, Region}
use Rattle.bitvec_domain.specs.declared.domain_mut.DomainMut.{DomainMut}
use Rattle.bitvec_domain.specs.declared.domain_mut.DomainMut.TheVariants.{Enclave as EnclaveMut, Region as RegionMut}
use Rattle.bitvec_domain.specs.declared.part.PartialElement.{PartialElement}
use Rattle.bitvec_domain.specs.declared.part_mut.PartialElementMut.{PartialElementMut}

-- what both types of domains show: one part of an element, or whole elements between a part before and one behind them, if there is one
pub data DomainPieces (T : Type 0) : Type 0 where
  enclave : SeenPart → DomainPieces T
  region : Option SeenPart → List T → Option SeenPart → DomainPieces T

-- The one part of a domain whose bits lie inside an element, if it is such, as `enclave` of `bitvec`'s `Domain` gives it.
abbrev pub enclave_of : {T : Type 0} → DomainPieces T → Option SeenPart
enclave_of (enclave part) = Some part
enclave_of (region head body tail) = None

-- The three pieces of a domain that reaches an element's edge, if it is such, as `region` of `bitvec`'s `Domain` gives them.
abbrev pub region_of : {T : Type 0} → DomainPieces T → Option (Option SeenPart × (List T × Option SeenPart))
region_of (enclave part) = None
region_of (region head body tail) = Some (head, (body, tail))

module _ {T O : Type 0} {t : Store T} {o : Order O} where
  -- What a part that is read shows, if there is one.
  abbrev pub seen_part_if : Option (PartialElement T O t o) → Option SeenPart
  seen_part_if None = None
  seen_part_if (Some p) = Some (seen_part p)

  -- What a `Domain` shows: its parts and whole elements.
  abbrev pub pieces_of : Domain T O t o → DomainPieces T
  pieces_of (Enclave p) = enclave (seen_part p)
  pieces_of (Region head body tail) = region (seen_part_if head) body.now (seen_part_if tail)

  -- What a part that is written shows, if there is one.
  abbrev pub seen_part_if_mut : Option (PartialElementMut T O t o) → Option SeenPart
  seen_part_if_mut None = None
  seen_part_if_mut (Some p) = Some (seen_part_mut p)

  -- What a `DomainMut` shows: its parts and whole elements.
  abbrev pub pieces_of_mut : DomainMut T O t o → DomainPieces T
  pieces_of_mut (EnclaveMut p) = enclave (seen_part_mut p)
  pieces_of_mut (RegionMut head body tail) = region (seen_part_if_mut head) body.now (seen_part_if_mut tail)

module _ {T : Type 0} (b : ℕ) (at : ℕ → ℕ → ℕ) (value : T → ℕ) where
  -- What the part shows of its element among these elements.
  abbrev pub part_in : List T → Part → SeenPart
  part_in elements part = partial_at b at (slice_index (map value elements) part.element) part.from part.to

  -- What the part, if there is one, shows of its element among these elements.
  abbrev pub part_in_if : List T → Option Part → Option SeenPart
  part_in_if elements None = None
  part_in_if elements (Some part) = Some (part_in elements part)

  -- The pieces into which a cut divides these elements.
  abbrev pub pieces_in : List T → Cut → DomainPieces T
  pieces_in elements (Inside part) = enclave (part_in elements part)
  pieces_in elements (Across before start end after) = region (part_in_if elements before) (slice_range elements start end) (part_in_if elements after)

  -- The bits of a part, and no bits where there is no part.
  abbrev pub bits_if : Option SeenPart → List Bool
  bits_if None = []
  bits_if (Some part) = part.bits

  -- The bits of all pieces, one piece after the other.
  abbrev pub bits_of_pieces : DomainPieces T → List Bool
  bits_of_pieces (enclave part) = part.bits
  bits_of_pieces (region head body tail) = bits_if head ++ (memory_bits b at (map value body) ++ bits_if tail)
