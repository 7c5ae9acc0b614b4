-- Texts of lists of bits, cut at the edges of elements.
use Rattle.std.specs.Prelude.{ℕ, ◌-◌, ◌*◌, Bool, true, List, length}
use Rattle.std.specs.Fmt.{digits}
use Rattle.std.specs.List.{flat_map}
use Rattle.bitvec_segments.specs.Segments.{segment_number, segments}
use Rattle.bitvec_domain.specs.Listing.{listed}

-- the groups of k bits of a list, cut from its end: its segments where it stands so that it ends at the edge of an element of k bits
abbrev pub groups : ℕ → List Bool → List (List Bool)
groups k list = segments k ((k - 1) * length list) list

-- the digit of a group: its number in base 16, the first bit highest
abbrev pub digit_text : Bool → List Bool → List ℕ
digit_text upper group = digits 16 upper (segment_number true group)

-- the digits of a segment, one for each of its groups of k bits
unfoldable pub digits_text : ℕ → Bool → List Bool → List ℕ
digits_text k upper segment = flat_map (digit_text upper) (groups k segment)

-- the text of a list that begins at the place s of a memory of b-bit elements: a list of the digits of each of its segments
unfoldable pub radix_text : ℕ → ℕ → ℕ → Bool → List Bool → List ℕ
radix_text b s k upper list = listed (digits_text k upper) (segments b s list)
