-- A packet: its bits, the numbers in them, and the fields of its headers.
use denote.Ref.{Bor}
use Rattle.std.specs.Prelude.{◌≡◌, ◌≢◌, ℕ, ◌+◌, ◌*◌, ◌<◌, ◌≤◌, Bool, true, ◌==◌, if◌then◌else◌, List, [], ◌++◌, length, map}
use Rattle.std.specs.List.{range_with_len}
use Rattle.bitvec.specs.Types.{Window}
use Rattle.bitvec.specs.Arrays.{msb0_bits}
use Rattle.bitrecord.specs.Layouts.{IsLayout, field_at}
use Rattle.bitrecord.specs.Records.{field_number, record_in}
use Rattle.bitrecord.specs.declared.endian.Endian.TheVariants.{Big}
use Rattle.bitrecord.specs.Views.{bits_of, fields_of}
use Rattle.bitrecord.specs.declared.layout.Layout.{Layout}
use Rattle.packet.specs.Checksums.{checksum_word}
use Rattle.packet.specs.declared.fault.Fault.{Fault}
use Rattle.packet.specs.declared.fault.Fault.TheVariants.{Truncated, Version, HeaderLength, Memory}
use Rattle.packet.specs.declared.field.Field.{Field}
use Rattle.packet.specs.declared.field.TheConstants.{CHECKSUM, DATAGRAM, HEADER_LENGTH, INTERNET, PROTOCOL, TRANSMISSION, VERSION}
use Rattle.packet.specs.declared.header.Header.{Header}

-- the bits of bytes, the highest of each first
abbrev pub packet_bits : List ℕ → List Bool
packet_bits bytes = msb0_bits 8 bytes

-- the number in a window of a packet, the first bit highest; and those in windows
abbrev pub number_at : List ℕ → Window → ℕ
number_at bytes window = field_number Big true 8 0 (packet_bits bytes) window

abbrev pub numbers_at : List ℕ → List Window → List ℕ
numbers_at bytes windows = record_in Big true 8 0 (packet_bits bytes) windows

-- ---- the fields

-- a field of a packet: its name, and its window
pub record Place : Type 0 where
  pub name : List ℕ
  pub window : Window

abbrev pub place : Field → Place
place field = record { name = field.name.now; window = field.window }

abbrev pub places_of : List Field → List Place
places_of fields = map place fields

abbrev pub windows_of : List Place → List Window
windows_of fields = map (λ (field : Place). field.window) fields

-- the row of a table: a field's name, where it begins in its header, and how many bits it has
abbrev pub row : Bor (List ℕ) × ℕ × ℕ → List ℕ × ℕ × ℕ
row r = (r.0.now, r.1, r.2)

-- the tables
abbrev pub internet_rows : List (List ℕ × ℕ × ℕ)
internet_rows = map (λ r. (r.0.now, r.1, r.2)) INTERNET

abbrev pub protocol_rows : ℕ → List (List ℕ × ℕ × ℕ)
protocol_rows protocol =
    if protocol == 6 then map (λ r. (r.0.now, r.1, r.2)) TRANSMISSION
    else if protocol == 17 then map (λ r. (r.0.now, r.1, r.2)) DATAGRAM else []

-- the fields of a header that begins so many bits into the packet
abbrev pub placed : ℕ → List ℕ × ℕ × ℕ → Place
placed start r = record { name = r.0; window = record { start = start + r.1; len = r.2 } }

abbrev pub placed_all : ℕ → List (List ℕ × ℕ × ℕ) → List Place
placed_all start rows = map (placed start) rows

-- those of the first header, and the number of one of them
abbrev pub internet_fields : List Place
internet_fields = placed_all 0 internet_rows

abbrev pub internet_number : List ℕ → ℕ → ℕ
internet_number bytes number = number_at bytes (field_at (windows_of internet_fields) number)

-- how many words of 32 bits the first header has
abbrev pub header_length : List ℕ → ℕ
header_length bytes = internet_number bytes HEADER_LENGTH

-- all fields of a packet: those of the first header, and those of the next, which begins where the first ends
abbrev pub fields_by : ℕ → ℕ → List Place
fields_by length protocol = internet_fields ++ placed_all (32 * length) (protocol_rows protocol)

abbrev pub packet_fields : List ℕ → List Place
packet_fields bytes = fields_by (header_length bytes) (internet_number bytes PROTOCOL)

abbrev pub packet_windows : List ℕ → List Window
packet_windows bytes = windows_of (packet_fields bytes)

-- ---- the words of 16 bits

abbrev pub word_window : ℕ → Window
word_window number = record { start = 16 * number; len = 16 }

-- so many first words of a packet; and those of its first header
abbrev pub word_windows : ℕ → List Window
word_windows count = map word_window (range_with_len 0 count)

abbrev pub header_windows : List ℕ → List Window
header_windows bytes = word_windows (2 * header_length bytes)

-- ---- what is written by fields and by words

-- the windows of 6 to 30 words
pub record AreWords (windows : List Window) : Type 0 where
  pub each : (k : ℕ) → k < length windows → field_at windows k ≡ word_window k
  pub some : checksum_word < length windows
  pub most : length windows ≤ 30

-- the checksum among these fields is the word that it is among the words
pub record AreFields (windows : List Window) : Type 0 where
  pub checksum : field_at windows CHECKSUM ≡ word_window checksum_word
  pub some : CHECKSUM < length windows

-- two layouts, of so many bits and with these windows, are of a packet's fields and of its header's words, and their records have n bits
pub record AreLayouts (field_bits word_bits : ℕ) (fields words : List Window) (n : ℕ) : Type 0 where
  pub field_bits_are : field_bits ≡ n
  pub word_bits_are : word_bits ≡ n
  pub are_fields : AreFields fields
  pub are_words : AreWords words

-- the windows that are read of a packet lie in it
pub record HasHeaders (bytes : List ℕ) : Type 0 where
  pub internet : IsLayout (8 * length bytes) (windows_of internet_fields)
  pub fields : IsLayout (8 * length bytes) (packet_windows bytes)
  pub words : IsLayout (8 * length bytes) (header_windows bytes)

-- why a packet has no headers that can be read; that memory is refused, no definition can tell
abbrev pub HeaderFault : List ℕ → Fault → Type 0
HeaderFault bytes Truncated = HasHeaders bytes → ⊥
HeaderFault bytes Version = internet_number bytes VERSION ≢ 4
HeaderFault bytes HeaderLength = header_length bytes < 5
HeaderFault bytes Memory = Unit {0}
HeaderFault bytes _ = ⊥

-- what is read of the first header, before all fields are known
pub record IsShape (bytes : List ℕ) (length protocol : ℕ) : Type 0 where
  pub version : internet_number bytes VERSION ≡ 4
  pub length_is : length ≡ header_length bytes
  pub protocol_is : protocol ≡ internet_number bytes PROTOCOL
  pub least : 5 ≤ length
  pub most : length ≤ 15

module _ {A : Type 0} where
  -- the layout of windows of a packet
  pub record IsLayoutOf (bytes : List ℕ) (windows : List Window) (layout : Layout A) : Type 0 where
    pub bits : bits_of layout ≡ 8 * length bytes
    pub fields : fields_of layout ≡ windows

  -- the headers of a packet
  pub record IsHeader (bytes : List ℕ) (header : Header A) : Type 0 where
    pub version : internet_number bytes VERSION ≡ 4
    pub fields : places_of header.fields.items ≡ packet_fields bytes
    pub layout : IsLayoutOf bytes (packet_windows bytes) header.layout
    pub words : IsLayoutOf bytes (header_windows bytes) header.words
    pub least : 5 ≤ header_length bytes
    pub most : header_length bytes ≤ 15
