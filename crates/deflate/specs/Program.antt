-- What the words ask for, and what is written.
use Rattle.std.specs.Prelude.{◌≡◌, ℕ, ◌⊎◌, IfSome, List, [], Ok, Err, Option, Some, None, codes, ◌==◌, if◌then◌else◌, length, slice_index_or}
use Rattle.std.specs.Io.KnownBytes.{Appends}
use Rattle.std.specs.Str.{bytes_eq}
use Rattle.bitvec.specs.Arrays.{lsb0_bits}
use Rattle.deflate.specs.Deflate.{inflated}
use Rattle.deflate.specs.declared.fault.Fault.{Fault}
use Rattle.deflate.specs.declared.fault.Fault.TheVariants.{Arguments, Input, Memory}
use Rattle.deflate.specs.declared.work.Verb.{Verb}
use Rattle.deflate.specs.declared.work.Verb.TheVariants.{Decode, Encode}

abbrev pub verb_named : List ℕ → Option Verb
verb_named word =
    if bytes_eq word (codes "decode") then Some Decode
    else if bytes_eq word (codes "encode") then Some Encode
    else None

-- one word, a verb
abbrev pub verb_of : List (List ℕ) → Option Verb
verb_of words = if length words == 1 then verb_named (slice_index_or words 0 []) else None

-- these are all bytes of a reader, where they are known
abbrev pub IsInput : Option (List ℕ) → List ℕ → Type 0
IsInput known bytes = IfSome known (λ all. bytes ≡ all)

-- the bytes of the stream that was read were written
pub record Decodes (read before after : Option (List ℕ)) : Type 0 where
  pub stream : List ℕ
  pub stream_is : IsInput read stream
  pub bytes : List ℕ
  pub bytes_are : inflated (lsb0_bits 8 stream) ≡ Ok bytes
  pub written : Appends before after bytes

-- a stream of the bytes that were read was written
pub record Encodes (read before after : Option (List ℕ)) : Type 0 where
  pub bytes : List ℕ
  pub bytes_are : IsInput read bytes
  pub stream : List ℕ
  pub stream_is : inflated (lsb0_bits 8 stream) ≡ Ok bytes
  pub written : Appends before after stream

-- the stream that was read has no bytes, and this says why
pub record IsNoStream (read : Option (List ℕ)) (fault : Fault) : Type 0 where
  pub stream : List ℕ
  pub stream_is : IsInput read stream
  pub why : inflated (lsb0_bits 8 stream) ≡ Err fault

-- what was asked for was done
abbrev pub Answers : Option Verb → Option (List ℕ) → Option (List ℕ) → Option (List ℕ) → Type 0
Answers None read before after = ⊥
Answers (Some Decode) read before after = Decodes read before after
Answers (Some Encode) read before after = Encodes read before after

-- this is why nothing was written
abbrev pub Refuses : Option Verb → Option (List ℕ) → Fault → Type 0
Refuses None read fault = fault ≡ Arguments
Refuses (Some Decode) read fault = (fault ≡ Input) ⊎ (fault ≡ Memory) ⊎ IsNoStream read fault
Refuses (Some Encode) read fault = (fault ≡ Input) ⊎ (fault ≡ Memory)
