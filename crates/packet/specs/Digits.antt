-- Packets as hexadecimal digits.
use Rattle.std.specs.Prelude.{All, ◌≡◌, ℕ, ◌+◌, ◌-◌, ◌*◌, ◌/◌, ◌%◌, ◌<◌, ◌≤◌, nat_lt, if◌then◌else◌, Bool, true, false, not, ◌||◌, List, [], ◌∷◌, ◌++◌, filter, length, map}
use Rattle.std.specs.Char.{digit_value, is_ascii_whitespace}
use Rattle.std.specs.List.{flat_map, list_all}
use Rattle.packet.specs.declared.fault.Fault.{Fault}
use Rattle.packet.specs.declared.fault.Fault.TheVariants.{Digit, Odd, Long, Memory}

-- the most bytes that a packet's length can say
abbrev pub most_bytes : ℕ
most_bytes = 65535

-- each byte of a text is a hexadecimal digit, in either case, or white space
abbrev pub has_digits : List ℕ → Bool
has_digits text = list_all (λ byte. is_ascii_whitespace byte || nat_lt (digit_value byte) 16) text

-- the values of the digits of a text, without its white space
abbrev pub digits_of : List ℕ → List ℕ
digits_of text = map digit_value (filter (λ byte. not (is_ascii_whitespace byte)) text)

-- These are a text's digits, and it has nothing but digits and white space.
pub record AreDigits (text digits : List ℕ) : Type 0 where
  pub all : has_digits text ≡ true
  pub digits_are : digits ≡ digits_of text
  pub below : All (λ digit. digit < 16) digits

-- the bytes of digits, the higher digit of each first
abbrev pub bytes_of : List ℕ → List ℕ
bytes_of [] = []
bytes_of (digit ∷ []) = []
bytes_of (high ∷ low ∷ digits) = (16 * high + low) ∷ bytes_of digits

-- the text is that of the packet's digits
pub record IsPacketText (text bytes : List ℕ) : Type 0 where
  pub digits : has_digits text ≡ true
  pub even : length (digits_of text) % 2 ≡ 0
  pub bytes_is : bytes ≡ bytes_of (digits_of text)
  pub bound : length bytes ≤ most_bytes

-- why digits are no packet's
abbrev pub DigitsFault : List ℕ → Fault → Type 0
DigitsFault digits Odd = length digits % 2 ≡ 1
DigitsFault digits Long = (length digits % 2 ≡ 0) × (most_bytes < length digits / 2)
DigitsFault digits Memory = Unit {0}
DigitsFault digits _ = ⊥

-- why a text is that of no packet's; that memory is refused, no definition can tell
abbrev pub TextFault : List ℕ → Fault → Type 0
TextFault text Digit = has_digits text ≡ false
TextFault text Memory = Unit {0}
TextFault text fault = (has_digits text ≡ true) × DigitsFault (digits_of text) fault

-- ---- what is printed

-- the lower case digit of a number below 16
abbrev pub digit_code : ℕ → ℕ
digit_code value = if nat_lt value 10 then 48 + value else 97 + (value - 10)

abbrev pub byte_text : ℕ → List ℕ
byte_text byte = digit_code (byte / 16) ∷ digit_code (byte % 16) ∷ []

-- the digits of a packet, on a line of their own
abbrev pub packet_text : List ℕ → List ℕ
packet_text bytes = flat_map byte_text bytes ++ 10 ∷ []
