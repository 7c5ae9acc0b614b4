-- The words after the program's name.
use Rattle.std.specs.Prelude.{ℕ, ◌^◌, ◌<◌, ◌&&◌, nat_lt, if◌then◌else◌, List, [], ◌∷◌, length, Option, Some, None, option_and_then, codes}
use Rattle.std.specs.Option.{option_map}
use Rattle.std.specs.Str.{all_ascii_digits, bytes_eq}
use Rattle.std.specs.Str.Parse.{digits_value}
use Rattle.sieve.specs.declared.request.Form.{Form}
use Rattle.sieve.specs.declared.request.Form.TheVariants.{Count, Lines, Picture}
use Rattle.sieve.specs.declared.request.Request.{Request}

infixl 10 ◌>>=◌
abbrev pub ◌>>=◌ : {A B : Type 0} → Option A → (A → Option B) → Option B
o >>= f = option_and_then f o

-- a word of one or more decimal digits whose number fits 64 bits
abbrev pub number_of : List ℕ → Option ℕ
number_of word =
    if nat_lt 0 (length word) && all_ascii_digits word && nat_lt (digits_value 10 word) (2 ^ 64)
    then Some (digits_value 10 word) else None

-- a number above 0
abbrev pub width_of : List ℕ → Option ℕ
width_of word = number_of word >>= λ width. if nat_lt 0 width then Some width else None

-- a form by its word, and one by its word and a width
abbrev pub form_of : List ℕ → Option Form
form_of mode =
    if bytes_eq mode (codes "count") then Some Count
    else if bytes_eq mode (codes "list") then Some Lines
    else None

abbrev pub wide_form_of : List ℕ → List ℕ → Option Form
wide_form_of mode width = if bytes_eq mode (codes "picture") then option_map Picture (width_of width) else None

-- the width of a picture is above 0
abbrev pub HasWidth : Form → Type 0
HasWidth (Picture width) = 0 < width
HasWidth form = Unit {0}

-- the primes below a number, in a form
abbrev pub request : Option Form → List ℕ → Option Request
request form below = do
  f ← form
  n ← number_of below
  Some (record { form = f; below = n })

-- MODE N, or MODE N WIDTH
unfoldable pub request_of : List (List ℕ) → Option Request
request_of (mode ∷ below ∷ []) = request (form_of mode) below
request_of (mode ∷ below ∷ width ∷ []) = request (wide_form_of mode width) below
request_of _ = None
