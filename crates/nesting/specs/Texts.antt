-- Texts with the brackets that they lack, and what is printed of them.
use Rattle.std.specs.Prelude.{◌≡◌, ◌≢◌, ℕ, ◌<◌, ◌⊎◌, List, [], ◌∷◌, ◌++◌, length, Option, None, slice_index_or}
use Rattle.std.specs.Io.KnownBytes.{Appends}
use Rattle.std.specs.List.{flat_map}
use Rattle.nesting.specs.Brackets.{IsNested, KeepsFront, open_mended, without_closers}
use Rattle.nesting.specs.declared.fault.Fault.{Fault}
use Rattle.nesting.specs.declared.fault.Fault.TheVariants.{Memory, Stray}

-- the text that a text becomes: nested, the same but for brackets that close, and the same where it is nested
pub record Mends (text mended : List ℕ) : Type 0 where
  pub mendable : open_mended text ≢ None
  pub nested : IsNested mended
  pub kept : without_closers mended ≡ without_closers text
  pub front : KeepsFront text mended
  pub same : IsNested text → mended ≡ text

abbrev pub line_of : List ℕ → List ℕ
line_of text = text ++ 10 ∷ []

-- the first `count` of the texts were printed as they become, each on a line of its own
pub record PrintsMended (texts : List (List ℕ)) (count : ℕ) (before after : Option (List ℕ)) : Type 0 where
  pub mended : List (List ℕ)
  pub long : length mended ≡ count
  pub each : (k : ℕ) → k < count → Mends (slice_index_or texts k []) (slice_index_or mended k [])
  pub printed : Appends before after (flat_map line_of mended)

-- the texts before one were printed so, and this is why that one was not: it can't be mended, or there was no memory
pub record StopsAt (texts : List (List ℕ)) (fault : Fault) (before after : Option (List ℕ)) : Type 0 where
  pub count : ℕ
  pub inside : count < length texts
  pub prints : PrintsMended texts count before after
  pub why : (fault ≡ Memory) ⊎ ((fault ≡ Stray) × (open_mended (slice_index_or texts count []) ≡ None))
