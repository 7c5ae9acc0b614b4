-- Ways to cut a list at values.
use Rattle.std.specs.Prelude.{◌≡◌, true, false, [], ◌∷◌, refl}
use Rattle.bitvec.specs.Cutting.{back_chunk, chunk, chunk_count, cut, left_before, left_behind, whole_chunk, whole_count, window, window_count}
use Rattle.bitvec.specs.PieceWalks.{chunks_of, cut_all, walk}

pub cut-1 : cut (false ∷ false ∷ true ∷ false ∷ true ∷ []) (record { start = 2; end = 4 }) ≡ true ∷ false ∷ []
cut-1 = refl

pub window_count-1 : window_count 3 5 ≡ 3
window_count-1 = refl

pub window-1 : window 3 5 1 ≡ record { start = 1; end = 4 }
window-1 = refl

pub chunk_count-1 : chunk_count 3 8 ≡ 3
chunk_count-1 = refl

pub chunk-1 : chunk 3 8 2 ≡ record { start = 6; end = 8 }
chunk-1 = refl

pub whole_count-1 : whole_count 3 8 ≡ 2
whole_count-1 = refl

pub whole_chunk-1 : whole_chunk 3 8 1 ≡ record { start = 3; end = 6 }
whole_chunk-1 = refl

pub back_chunk-1 : back_chunk 3 8 0 ≡ record { start = 5; end = 8 }
back_chunk-1 = refl

pub left_behind-1 : left_behind 3 8 ≡ record { start = 6; end = 8 }
left_behind-1 = refl

pub left_before-1 : left_before 3 8 ≡ record { start = 0; end = 2 }
left_before-1 = refl

-- the windows of two values
pub cut_all-1 : cut_all (window_count 2) (window 2) (true ∷ false ∷ true ∷ []) ≡ (true ∷ false ∷ []) ∷ (false ∷ true ∷ []) ∷ []
unfolding walk
cut_all-1 = refl

pub chunks_of-1 : chunks_of 2 (true ∷ false ∷ true ∷ []) ≡ (true ∷ false ∷ []) ∷ (true ∷ []) ∷ []
unfolding walk
chunks_of-1 = refl
