-- The words after the program's name.
use Rattle.std.specs.Prelude.{ℕ, ◌+◌, ◌^◌, ◌&&◌, ◌==◌, nat_lt, slice_index_or, drop, if◌then◌else◌, List, [], length, Option, Some, None, option_and_then, codes}
use Rattle.std.specs.Option.{option_map}
use Rattle.std.specs.Str.{bytes_eq}
use Rattle.numerals.specs.Numerals.{number_of}
use Rattle.std.specs.declared.ops.Range.{Range}
use Rattle.slots.specs.declared.arguments.Arguments.{Arguments}
use Rattle.slots.specs.declared.arguments.Request.{Request}
use Rattle.slots.specs.declared.arguments.Request.TheVariants.{Change, Show}
use Rattle.slots.specs.declared.places.Change.TheVariants.{Take, Give}

infixl 10 ◌>>=◌
abbrev pub ◌>>=◌ : {A B : Type 0} → Option A → (A → Option B) → Option B
o >>= f = option_and_then f o

abbrev pub word_at : List (List ℕ) → ℕ → List ℕ
word_at words k = slice_index_or words k []

-- COUNT alone
abbrev pub one_number : List (List ℕ) → Option ℕ
one_number words = if length words == 1 then number_of 64 (word_at words 0) else None

-- so many places from one on, where they end within the numbers of 64 bits
abbrev pub places_from : ℕ → ℕ → Option (Range ℕ)
places_from start count = if nat_lt (start + count) (2 ^ 64) then Some (record { start = start; end = start + count }) else None

-- START, of one place, or START COUNT
abbrev pub places_of : List (List ℕ) → Option (Range ℕ)
places_of words =
    if length words == 1 then (number_of 64 (word_at words 0) >>= λ start. places_from start 1)
    else if length words == 2 then (number_of 64 (word_at words 0) >>= λ start. number_of 64 (word_at words 1) >>= λ count. places_from start count)
    else None

-- a verb and its words
abbrev pub request_of : List ℕ → List (List ℕ) → Option Request
request_of verb words =
    if bytes_eq verb (codes "take") then option_map (λ count. Change (Take count)) (one_number words)
    else if bytes_eq verb (codes "give") then option_map (λ places. Change (Give places)) (places_of words)
    else if bytes_eq verb (codes "show") && length words == 0 then Some Show
    else None

-- the path, and what is asked of the map there
pub record Given : Type 0 where
  pub path : List ℕ
  pub request : Request

abbrev pub given : Arguments → Given
given arguments = record { path = arguments.path.now; request = arguments.request }

-- FILE and a request
abbrev pub given_of : List (List ℕ) → Option Given
given_of words =
    if nat_lt (length words) 2 then None
    else option_map (λ request. record { path = word_at words 0; request = request }) (request_of (word_at words 1) (drop 2 words))
