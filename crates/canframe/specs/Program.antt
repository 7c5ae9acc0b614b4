-- What the words ask for, and what is printed.
use Rattle.std.specs.Prelude.{◌≡◌, ℕ, ◌^◌, ◌<◌, ◌&&◌, ◌⊎◌, if◌then◌else◌, nat_lt, List, [], ◌∷◌, ◌++◌, drop, length, map, Option, Some, None, codes, option_and_then, slice_index_or}
use Rattle.std.specs.Fmt.{decimal}
use Rattle.std.specs.Io.KnownBytes.{Appends}
use Rattle.std.specs.List.{flat_map}
use Rattle.std.specs.Str.{all_ascii_digits, bytes_eq}
use Rattle.numerals.specs.Numerals.{number_of}
use Rattle.bitvec.specs.Arrays.{msb0_bits}
use Rattle.canframe.specs.Frames.{IsFrame, LacksFrame}
use Rattle.canframe.specs.declared.fault.Fault.{Fault}
use Rattle.canframe.specs.declared.fault.Fault.TheVariants.{Arguments, Memory, NoFrame}

-- ---- words

abbrev pub byte_of : List ℕ → Option ℕ
byte_of word = number_of 8 word

abbrev pub id_of : List ℕ → Option ℕ
id_of word = option_and_then (λ id. if nat_lt id 2048 then Some id else None) (number_of 16 word)

-- the bytes are those of the words
abbrev pub AreBytes : List (List ℕ) → List ℕ → Type 0
AreBytes words bytes = map byte_of words ≡ map Some bytes

-- one of the words is no byte
abbrev pub LacksByte : List (List ℕ) → Type 0
LacksByte words = (k : ℕ) × (k < length words) × (byte_of (slice_index_or words k []) ≡ None)

pub data Asked : Type 0 where
  encode : (id : List ℕ) (bytes : List (List ℕ)) → Asked
  decode : (bytes : List (List ℕ)) → Asked

abbrev pub word_at : List (List ℕ) → ℕ → List ℕ
word_at words k = slice_index_or words k []

-- `encode ID BYTE..` or `decode BYTE..`
abbrev pub asked_of : List (List ℕ) → Option Asked
asked_of words =
    let verb : List ℕ = word_at words 0 in
    if bytes_eq verb (codes "encode") && nat_lt 1 (length words) then Some (encode (word_at words 1) (drop 2 words))
    else if bytes_eq verb (codes "decode") && nat_lt 0 (length words) then Some (decode (drop 1 words))
    else None

-- ---- answers

-- each byte behind a space, and the end of the line
abbrev pub bytes_text : List ℕ → List ℕ
bytes_text bytes = flat_map (λ byte. codes " " ++ decimal byte) bytes ++ 10 ∷ []

-- the words that decode a frame, and those that encode one
abbrev pub decode_text : List ℕ → List ℕ
decode_text bytes = codes "decode" ++ bytes_text bytes

abbrev pub encode_text : ℕ → List ℕ → List ℕ
encode_text id bytes = codes "encode " ++ decimal id ++ bytes_text bytes

-- the frame of the id and the bytes was printed
pub record PrintsFrame (word : List ℕ) (words : List (List ℕ)) (before after : Option (List ℕ)) : Type 0 where
  pub id : ℕ
  pub id_is : id_of word ≡ Some id
  pub bytes : List ℕ
  pub bytes_are : AreBytes words bytes
  pub frame : List ℕ
  pub is : IsFrame (msb0_bits 8 frame) id bytes
  pub printed : Appends before after (decode_text frame)

-- the id and the bytes of the frame were printed
pub record PrintsBytes (words : List (List ℕ)) (before after : Option (List ℕ)) : Type 0 where
  pub frame : List ℕ
  pub frame_is : AreBytes words frame
  pub id : ℕ
  pub bytes : List ℕ
  pub is : IsFrame (msb0_bits 8 frame) id bytes
  pub printed : Appends before after (encode_text id bytes)

-- the words are bytes, and no frame
pub record AreNoFrame (words : List (List ℕ)) : Type 0 where
  pub bytes : List ℕ
  pub bytes_are : AreBytes words bytes
  pub lacks : LacksFrame (msb0_bits 8 bytes)

-- the answer to what is asked for was printed
abbrev pub Answers : Option Asked → Option (List ℕ) → Option (List ℕ) → Type 0
Answers None before after = ⊥
Answers (Some (encode word words)) before after = PrintsFrame word words before after
Answers (Some (decode words)) before after = PrintsBytes words before after

-- this is why there is none
abbrev pub Refuses : Option Asked → Fault → Type 0
Refuses None fault = fault ≡ Arguments
Refuses (Some (encode word words)) fault = (fault ≡ Memory) ⊎ ((fault ≡ Arguments) × ((id_of word ≡ None) ⊎ (8 < length words) ⊎ LacksByte words))
Refuses (Some (decode words)) fault = (fault ≡ Memory) ⊎ ((fault ≡ Arguments) × LacksByte words) ⊎ ((fault ≡ NoFrame) × AreNoFrame words)
