-- The words after the program's name.
use Rattle.std.specs.Prelude.{ℕ, ◌-◌, bit_xor, if◌then◌else◌, List, [], ◌∷◌, Option, Some, None, codes}
use Rattle.std.specs.Str.{bytes_eq}
use Rattle.bitvec_base.specs.declared.window.Window.{Window}
use Rattle.bitdo_work.specs.Elements.{elements_of}
use Rattle.bitdo_work.specs.Words.{◌>>=◌, number_of}
use Rattle.bitdo_work.specs.declared.arguments.Arguments.{Arguments}

-- the bits of an element
abbrev pub width_of : List ℕ → Option ℕ
width_of word =
    if bytes_eq word (codes "8") then Some 8
    else if bytes_eq word (codes "16") then Some 16
    else if bytes_eq word (codes "32") then Some 32
    else if bytes_eq word (codes "64") then Some 64
    else if bytes_eq word (codes "128") then Some 128
    else None

-- which bit of an element an index means, in an element of so many bits
abbrev pub order_of : List ℕ → Option (ℕ → ℕ → ℕ)
order_of word =
    if bytes_eq word (codes "lsb0") then Some (λ bits index. index)
    else if bytes_eq word (codes "msb0") then Some (λ bits index. bits - 1 - index)
    else if bytes_eq word (codes "hilo") then Some (λ bits index. bit_xor index 4)
    else None

-- what is asked for: elements of `bits` bits in the order `at`, two memories of them, and a window of the first
pub record Request : Type 0 where
  pub bits : ℕ
  pub at : ℕ → ℕ → ℕ
  pub memory : List ℕ
  pub right : List ℕ
  pub window : Window

abbrev pub request : ℕ → (ℕ → ℕ → ℕ) → List ℕ → List ℕ → Window → Request
request bits at memory right window = record { bits = bits; at = at; memory = memory; right = right; window = window }

-- the same by the texts of the memories
unfoldable pub request_by_texts : ℕ → (ℕ → ℕ → ℕ) → List ℕ → List ℕ → Window → Option Request
request_by_texts bits at memory right window = do
  elements ← elements_of bits memory
  others ← elements_of bits right
  Some (request bits at elements others window)

-- WIDTH ORDER MEMORY RIGHT START LEN
unfoldable pub request_of : List (List ℕ) → Option Request
request_of (width ∷ order ∷ memory ∷ right ∷ start ∷ len ∷ []) = do
  s ← number_of start
  l ← number_of len
  bits ← width_of width
  at ← order_of order
  request_by_texts bits at memory right (record { start = s; len = l })
request_of _ = None

-- ---- what the arguments ask for

-- at elements and an order
abbrev pub typed_request : ℕ → (ℕ → ℕ → ℕ) → Arguments → Option Request
typed_request bits at arguments = request_by_texts bits at arguments.memory.now arguments.right.now arguments.window

-- at elements, in their own order
abbrev pub ordered_request : ℕ → Arguments → Option Request
ordered_request bits arguments = do
  at ← order_of arguments.order.now
  typed_request bits at arguments

-- at their own elements
abbrev pub own_request : Arguments → Option Request
own_request arguments = do
  bits ← width_of arguments.width.now
  ordered_request bits arguments
