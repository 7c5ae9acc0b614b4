-- The header of a segment of TCP: sixteen fields and four zeros in 160 bits, the first bit of each the highest.
use Rattle.std.specs.Prelude.{◌≡◌, ℕ, Bool, List}
use Rattle.std.specs.Int.{from_bool}
use Rattle.bitvec_code_examples.specs.Headers.{field}

-- where the segment comes from and goes to, and the first numbers of its bytes and of those that are awaited
pub record HasPlaces (bits : List Bool) (source target sequence awaited : ℕ) : Type 0 where
  pub source_is : field bits 0 16 ≡ source
  pub target_is : field bits 16 32 ≡ target
  pub sequence_is : field bits 32 64 ≡ sequence
  pub awaited_is : field bits 64 96 ≡ awaited

-- the eight flags, behind four zeros
pub record HasFlags (bits : List Bool) (reduced echo urgent answer push reset first last : Bool) : Type 0 where
  pub zeros_are : field bits 100 104 ≡ 0
  pub reduced_is : field bits 104 105 ≡ from_bool reduced
  pub echo_is : field bits 105 106 ≡ from_bool echo
  pub urgent_is : field bits 106 107 ≡ from_bool urgent
  pub answer_is : field bits 107 108 ≡ from_bool answer
  pub push_is : field bits 108 109 ≡ from_bool push
  pub reset_is : field bits 109 110 ≡ from_bool reset
  pub first_is : field bits 110 111 ≡ from_bool first
  pub last_is : field bits 111 112 ≡ from_bool last

-- how long the header is, how much may be sent, the checksum, and how much is urgent
pub record HasSizes (bits : List Bool) (words window checksum urgent_len : ℕ) : Type 0 where
  pub words_is : field bits 96 100 ≡ words
  pub window_is : field bits 112 128 ≡ window
  pub checksum_is : field bits 128 144 ≡ checksum
  pub urgent_len_is : field bits 144 160 ≡ urgent_len
