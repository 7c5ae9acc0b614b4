-- The words on lists at values.
use Rattle.std.specs.Prelude.{◌≡◌, ◌&&◌, ◌||◌, true, false, Some, [], ◌∷◌, refl}
use Rattle.bitvec.specs.Combined.{combined_within}
use Rattle.bitvec.specs.Counts.{ones_of, zeros_of}
use Rattle.bitvec.specs.Lists.{combined, copied_within, differs, first_place, is_prefix, is_suffix, last_place, places_of, rotated_left, rotated_right, same_bits, shifted_end, shifted_start, stands_at, stands_in}
use Rattle.bitvec.specs.Swaps.{swapped_within}
use Rattle.bitvec.specs.Window.{write_at}

pub same_bits-1 : same_bits (true ∷ false ∷ []) (true ∷ false ∷ false ∷ []) ≡ false
same_bits-1 = refl

pub is_prefix-1 : is_prefix (false ∷ true ∷ []) (false ∷ true ∷ false ∷ []) ≡ true
unfolding is_prefix
is_prefix-1 = refl

pub is_suffix-1 : is_suffix (true ∷ false ∷ []) (false ∷ true ∷ false ∷ []) ≡ true
unfolding is_suffix
is_suffix-1 = refl

pub stands_at-1 : stands_at (true ∷ false ∷ []) (false ∷ true ∷ false ∷ []) 1 ≡ true
unfolding stands_at
stands_at-1 = refl

pub stands_in-1 : stands_in (true ∷ false ∷ []) (false ∷ true ∷ false ∷ []) ≡ true
unfolding stands_in stands_at
stands_in-1 = refl

pub combined-1 : combined (λ a b. a && b) (true ∷ true ∷ true ∷ []) (true ∷ false ∷ []) ≡ true ∷ false ∷ false ∷ []
unfolding combined
combined-1 = refl

pub places_of-1 : places_of true (false ∷ true ∷ true ∷ []) ≡ 1 ∷ 2 ∷ []
unfolding places_of
places_of-1 = refl

pub first_place-1 : first_place true (false ∷ true ∷ true ∷ []) ≡ Some 1
unfolding places_of
first_place-1 = refl

pub last_place-1 : last_place true (false ∷ true ∷ true ∷ []) ≡ Some 2
unfolding places_of
last_place-1 = refl

pub rotated_left-1 : rotated_left 2 (false ∷ true ∷ false ∷ false ∷ true ∷ []) ≡ false ∷ false ∷ true ∷ false ∷ true ∷ []
unfolding rotated_left
rotated_left-1 = refl

pub rotated_right-1 : rotated_right 2 (false ∷ true ∷ false ∷ false ∷ true ∷ []) ≡ false ∷ true ∷ false ∷ true ∷ false ∷ []
unfolding rotated_right
rotated_right-1 = refl

pub shifted_start-1 : shifted_start 1 (true ∷ true ∷ true ∷ []) ≡ true ∷ true ∷ false ∷ []
unfolding shifted_start
shifted_start-1 = refl

pub shifted_end-1 : shifted_end 1 (true ∷ true ∷ true ∷ []) ≡ false ∷ true ∷ true ∷ []
unfolding shifted_end
shifted_end-1 = refl

pub copied_within-1 : copied_within 0 2 1 (true ∷ false ∷ false ∷ false ∷ []) ≡ true ∷ true ∷ false ∷ false ∷ []
unfolding copied_within write_at
copied_within-1 = refl

pub ones_of-1 : ones_of (true ∷ false ∷ true ∷ []) ≡ 2
ones_of-1 = refl

pub zeros_of-1 : zeros_of (true ∷ false ∷ true ∷ []) ≡ 1
zeros_of-1 = refl

pub differs-1 : differs true false ≡ true
differs-1 = refl

-- the ranges may overlap: each source is as it was before
pub combined_within-1 : combined_within (λ a b. a || b) 0 2 1 (true ∷ false ∷ false ∷ []) ≡ true ∷ true ∷ false ∷ []
unfolding combined_within combined write_at
combined_within-1 = refl

pub swapped_within-1 : swapped_within 0 2 3 (true ∷ true ∷ false ∷ false ∷ true ∷ []) ≡ false ∷ true ∷ false ∷ true ∷ true ∷ []
unfolding swapped_within write_at
swapped_within-1 = refl
