-- Pieces of a view that are lent to closures in its place, and what the closures leave.
use Rattle.std.specs.Prelude.{◌≡◌, ℕ, ◌+◌, ◌-◌, ◌<◌, ◌≤◌, ◌⊎◌, ◌++◌, Bool, List, slice_index_or, ⊤}
use Rattle.std.specs.Borrow.{GName, MutBor}
use Rattle.std.specs.declared.ops.Range.{Range}
use Rattle.bitvec_base.specs.Window.{max_bits, window_range, write_at}
use Rattle.bitvec_base.specs.declared.window.Window.{Window}
use Rattle.bitvec_cutting.specs.Cutting.{back_chunk, chunk, chunk_count, cut, whole_chunk, whole_count}
use Rattle.bitvec_slice.specs.Seen.{Seen}
use Rattle.bitvec_closures.specs.InPlace.{StandsAt, StaysInPlace}

-- The range from one index up to, without, another.
abbrev pub range_of : ℕ → ℕ → Range ℕ
range_of from to = record { start = from; end = to }

-- a way to cut a list into numbered pieces: how many a list of so many values has, and where in it each stands
pub record WayToCut : Type 0 where
  pub count : ℕ → ℕ
  pub place : ℕ → ℕ → Range ℕ

-- The way to cut a list with this count and these places.
abbrev pub way_of : (ℕ → ℕ) → (ℕ → ℕ → Range ℕ) → WayToCut
way_of count place = record { count = count; place = place }

-- The way to cut a list into chunks of a size from its start, the last of which may be shorter.
abbrev pub in_chunks : ℕ → WayToCut
in_chunks size = record { count = chunk_count size; place = chunk size }

-- The way to cut a list into chunks of a size from its end, the last of which may be shorter.
abbrev pub in_back_chunks : ℕ → WayToCut
in_back_chunks size = record { count = chunk_count size; place = back_chunk size }

-- The way to cut a list into whole chunks of a size from its start, as `chunks_exact` of `bitvec` does.
abbrev pub in_whole_chunks : ℕ → WayToCut
in_whole_chunks size = record { count = whole_count size; place = whole_chunk size }

-- The way to cut a list into whole chunks of a size from its end, as `rchunks_exact` of `bitvec` does.
abbrev pub in_whole_back_chunks : ℕ → WayToCut
in_whole_back_chunks size = record { count = whole_count size; place = back_chunk size }

-- No piece of a list of `len` values is empty, and no two have a value in common.
abbrev pub IsApart : WayToCut → ℕ → Type 0
IsApart way len = (k : ℕ) → k < way.count len → ((way.place len k).start < (way.place len k).end)
    × ((j : ℕ) → j < k → ((way.place len j).end ≤ (way.place len k).start) ⊎ ((way.place len k).end ≤ (way.place len j).start))

-- The index lies in no piece of a list of `len` values.
abbrev pub IsLeftOut : WayToCut → ℕ → ℕ → Type 0
IsLeftOut way len i = (k : ℕ) → k < way.count len → (i < (way.place len k).start) ⊎ ((way.place len k).end ≤ i)

-- The piece has the view's bits in the range, at their places in the view's memory.
pub record IsPieceOf {T : Type 0} (view : Seen T) (range : Range ℕ) (piece : Seen T) : Type 0 where
  pub bits : piece.bits ≡ cut view.bits range
  pub start : piece.window.start ≡ view.window.start + range.start
  pub len : piece.window.len ≡ range.end - range.start

-- the view is narrowed to its bits in the range, and `window` is where it stood
pub record Narrows {V T : Type 0} (shows : V → Seen T) (named : V → GName) (view : V) (range : Range ℕ) (window : Window) (piece : V) : Type 0 where
  pub stood : window ≡ (shows view).window
  pub stands : StandsAt shows named view (window_range (shows view).window range.start range.end) piece
  pub part : IsPieceOf (shows view) range (shows piece)

-- The piece is the one with this number, and has at least one bit.
pub record IsNumbered {T : Type 0} (view : Seen T) (way : WayToCut) (number : ℕ) (piece : Seen T) : Type 0 where
  pub part : IsPieceOf view (way.place view.window.len number) piece
  pub below : number < way.count view.window.len
  pub bound : number < max_bits
  pub some : 0 < piece.window.len

module _ {V T : Type 0} (shows : V → Seen T) (named : V → GName) where
  -- An edit with this contract may be called on each such piece, and leaves it in its place.
  pub record MayEdit {R : Type 0} (pre : MutBor V → Type 0) (post : MutBor V → R → MutBor V → Type 0) (IsPiece : Seen T → Type 0) : Type 0 where
    pub accepts : (p : MutBor V) → IsPiece (shows p.now) → pre p
    pub in_place : (p q : MutBor V) (r : R) → IsPiece (shows p.now) → post p r q → StaysInPlace shows named p.now q.now

module _ {V T : Type 0} (shows : V → Seen T) where
  -- The edit was called on the piece, and the view has in its range the bits that it left.
  pub record EditsPiece {R : Type 0} (writes : V → V → List Bool → Type 0) (post : MutBor V → R → MutBor V → Type 0) (before : V) (range : Range ℕ) (r : R) (after : V) : Type 0 where
    pub piece : MutBor V
    pub left : MutBor V
    pub is : IsPieceOf (shows before) range (shows piece.now)
    pub edited : post piece r left
    pub written : writes before after (write_at (shows before).bits range.start (shows left.now).bits)

  -- One edit was called on the bits before `mid` and another on those from it, and the view has what they left.
  pub record EditsHalves {A B : Type 0} (writes : V → V → List Bool → Type 0) (left : MutBor V → A → MutBor V → Type 0) (right : MutBor V → B → MutBor V → Type 0) (before : V) (mid : ℕ) (a : A) (b : B) (after : V) : Type 0 where
    pub first : MutBor V
    pub first_left : MutBor V
    pub second : MutBor V
    pub second_left : MutBor V
    pub first_is : IsPieceOf (shows before) (range_of 0 mid) (shows first.now)
    pub first_edited : left first a first_left
    pub second_is : IsPieceOf (shows before) (range_of mid (shows before).window.len) (shows second.now)
    pub second_edited : right second b second_left
    pub written : writes before after ((shows first_left.now).bits ++ (shows second_left.now).bits)

  -- A call on the piece with this number left this list there, and the edit as `after`.
  pub record EditsNumbered {F : Type 0} (step : F → ℕ → MutBor V → ⊤ → MutBor V → F → Type 0) (view : Seen T) (way : WayToCut) (number : ℕ) (before : F) (list : List Bool) (after : F) : Type 0 where
    pub piece : MutBor V
    pub left : MutBor V
    pub is : IsNumbered view way number (shows piece.now)
    pub stepped : step before number piece tt left after
    pub bits : list ≡ (shows left.now).bits

  -- the edit was called on the first `count` pieces in turn, each time as the call before left it, and is `last` afterwards;
  -- it was `states k` as it was called on the piece `k`, and left `lists k` there
  pub record CallsInTurn {F : Type 0} (step : F → ℕ → MutBor V → ⊤ → MutBor V → F → Type 0) (edit : F) (view : Seen T) (way : WayToCut) (count : ℕ) (lists : ℕ → List Bool) (last : F) : Type 0 where
    pub states : ℕ → F
    pub first : states 0 ≡ edit
    pub last_is : states count ≡ last
    pub calls : (k : ℕ) → k < count → EditsNumbered step view way k (states k) (lists k) (states (k + 1))

module _ {V T : Type 0} (shows : V → Seen T) (named : V → GName) where
  -- After any calls in turn the edit may be called on the next piece, and leaves it in its place.
  pub record MayEditEach {F : Type 0} (pre : F → ℕ → MutBor V → Type 0) (step : F → ℕ → MutBor V → ⊤ → MutBor V → F → Type 0) (edit : F) (view : Seen T) (way : WayToCut) : Type 0 where
    pub at : (f : F) (k : ℕ) (lists : ℕ → List Bool) → CallsInTurn shows step edit view way k lists f
        → MayEdit shows named (pre f k) (λ p r q. (g : F) × step f k p r q g) (IsNumbered view way k)

  -- The edit was called on all pieces in turn, and each bit in no piece, and all else, is as before.
  pub record EditsPieces {F : Type 0} (writes : V → V → List Bool → Type 0) (step : F → ℕ → MutBor V → ⊤ → MutBor V → F → Type 0) (edit : F) (before : V) (way : WayToCut) (after : V) : Type 0 where
    pub last : F
    pub in_turn : CallsInTurn shows step edit (shows before) way (way.count (shows before).window.len) (λ k. cut (shows after).bits (way.place (shows before).window.len k)) last
    pub others : (i : ℕ) (d : Bool) → IsLeftOut way (shows before).window.len i → slice_index_or (shows after).bits i d ≡ slice_index_or (shows before).bits i d
    pub stays : StaysInPlace shows named before after
    pub written : writes before after (shows after).bits
