-- What the program prints, and with which status it ends.
use Rattle.std.specs.Prelude.{◌≡◌, ℕ, ◌-◌, ◌^◌, ◌≤◌, ◌↔◌, Bool, IsSomeAnd, IsTrue, List, [], ◌∷◌, ◌++◌, Option, None, codes, true, false}
use Rattle.std.specs.Fmt.{decimal, digits, format_spec, padded_integral}
use Rattle.std.specs.Io.KnownBytes.{Appends}
use Rattle.std.specs.List.{flat_map}
use Rattle.bitvec.specs.Arrays.{lsb0_bits, msb0_bits}
use Rattle.bitvec.specs.Radix.{radix_text}
use Rattle.device.specs.Filter.{Has}
use Rattle.device.specs.Parts.{Asked, IsPart}
use Rattle.device.specs.Registers.{baud_of, data_of, parity_of, registers_of}
use Rattle.device.specs.declared.bloom.Bloom.{Bloom}
use Rattle.device.specs.declared.part.Part.{Part}
use Rattle.device.specs.declared.part.Part.TheVariants as part
use Rattle.device.specs.declared.uart.Uart.{Uart}

-- the text on a line of its own
abbrev pub line_of : List ℕ → List ℕ
line_of text = text ++ 10 ∷ []

-- a register as eight hexadecimal digits
abbrev pub register_text : ℕ → List ℕ
register_text register = line_of (padded_integral (format_spec 32 0 4 8 (2 ^ 64 - 1)) false [] (digits 16 true register))

-- the fields, and then the registers
abbrev pub fields_text : Uart → List ℕ
fields_text made = line_of (codes "baud " ++ decimal (baud_of made)) ++ line_of (codes "parity " ++ decimal (parity_of made)) ++ line_of (codes "data " ++ decimal (data_of made))

abbrev pub uart_text : Uart → List ℕ
uart_text made = fields_text made ++ flat_map register_text (registers_of made)

abbrev pub answer_text : Bool → List ℕ
answer_text true = codes "maybe"
answer_text false = codes "no"

-- bits of bytes, those of each byte together
abbrev pub bits_text : List Bool → List ℕ
bits_text bits = line_of (radix_text 8 0 1 false bits)

-- whether the filter may have the key was printed
pub record PrintsAnswer (filter : Bloom) (key : ℕ) (before after : Option (List ℕ)) : Type 0 where
  pub answer : Bool
  pub answer_is : IsTrue answer ↔ Has 3 filter key
  pub printed : Appends before after (line_of (answer_text answer))

-- a part was printed
abbrev pub PrintsPart : Part → Option (List ℕ) → Option (List ℕ) → Type 0
PrintsPart (part.Uart made) before after = Appends before after (uart_text made)
PrintsPart (part.Bloom filter key) before after = PrintsAnswer filter key before after
PrintsPart (part.Pattern bytes) before after = Appends before after (bits_text (lsb0_bits 8 bytes))
PrintsPart (part.Chunks bytes) before after = Appends before after (bits_text (msb0_bits 8 bytes))

-- the part that is asked for was printed
pub record PrintsAsked (asked : Asked) (before after : Option (List ℕ)) : Type 0 where
  pub made : Part
  pub is : IsPart asked made
  pub prints : PrintsPart made before after

-- with status 0 the part that is asked for was printed, with 2 that none is, and with 1 the output failed
pub record Works (asked : Option Asked) (before after : Option (List ℕ)) (status : ℕ) : Type 0 where
  pub known : status ≤ 2
  pub done : status ≡ 0 → IsSomeAnd asked (λ it. PrintsAsked it before after)
  pub bad_arguments : status ≡ 2 → (asked ≡ None) × Appends before after (line_of (codes "bad arguments"))
