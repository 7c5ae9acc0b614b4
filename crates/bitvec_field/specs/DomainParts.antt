-- The bits of a domain's parts, element by element.
use Rattle.std.specs.Prelude.{ℕ, Bool, List, [], ◌∷◌, ◌++◌, Option, None, Some, map}
use Rattle.bitvec_base.specs.Memory.{element_bits}
use Rattle.bitvec_domain.specs.Domains.{DomainPieces, enclave, region}
use Rattle.bitvec_domain.specs.Parts.{SeenPart}

-- the bits of a part of an element, as a list of their own, if there is one
abbrev pub part_list_if : Option SeenPart → List (List Bool)
part_list_if None = []
part_list_if (Some part) = part.bits ∷ []

module _ {T : Type 0} (b : ℕ) (at : ℕ → ℕ → ℕ) (value : T → ℕ) where
  -- a list for each element that the pieces touch, in their order
  abbrev pub lists_of_pieces : DomainPieces T → List (List Bool)
  lists_of_pieces (enclave part) = part.bits ∷ []
  lists_of_pieces (region head body tail) = part_list_if head ++ (map (λ element. element_bits b at (value element)) body ++ part_list_if tail)
