-- The fields and the words of a header.
use Rattle.std.proofs.Common.{◌≡◌, ℕ, ◌*◌, ◌<◌, ◌≤◌, ◌⊎◌, List, ◌++◌, get_or, length, sym, ap, ⊎_elim, ◌∙◌, arith}
use Rattle.std.proofs.lemmas.List.{get_or-map}
use Rattle.std.specs.List.{flat_map}
use Rattle.std.proofs.lemmas.List.FromFn.{get_or-map-range_with_len, length-map-range_with_len}
use Rattle.bitrecord.specs.Layouts.{IsLayout, field_at, no_field}
use Rattle.bitvec.specs.Types.{Window}
use Rattle.packet.specs.Checksums.{checksum_word, sum_words}
use Rattle.packet.specs.Packets.{AreWords, HasHeaders, HeaderFault, IsHeader, Place, header_length, header_windows, number_at, numbers_at, packet_fields, place, places_of, windows_of, word_window, word_windows}
use Rattle.packet.specs.Texts.{field_line, field_text, fields_text, verdict_text}
use Rattle.packet.proofs.PlaceLaws.{window-at}
use Rattle.packet.specs.declared.fault.Fault.{Fault}
use Rattle.packet.specs.declared.fault.Fault.TheVariants.{Memory, Truncated}
use Rattle.packet.specs.declared.field.Field.{Field}
use Rattle.packet.specs.declared.header.Header.{Header}

pub words-are : (count : ℕ) → checksum_word < count → count ≤ 30 → AreWords (word_windows count)
words-are count some most =
    let size = length-map-range_with_len word_window 0 count in
    record {
      each = λ k low. get_or-map-range_with_len word_window 0 count k k no_field (omega arith) (omega arith);
      some = omega arith;
      most = omega arith;
    }

pub header-words : {A : Type 0} (bytes : List ℕ) (header : Header A) → IsHeader bytes header → AreWords (header_windows bytes)
header-words bytes header is = let least = is.least in let most = is.most in words-are (2 * header_length bytes) (omega arith) (omega arith)

-- the line of a field that is read
pub line-of : (bytes : List ℕ) (items : List Field) (n value : ℕ) (d : Field) → n < length items → value ≡ number_at bytes (field_at (windows_of (places_of items)) n)
    → field_line (place (get_or items n d)) value ≡ field_text bytes (get_or (places_of items) n (place d))
line-of bytes items n value d low read =
    ap (field_line (place (get_or items n d))) (read ∙ ap (number_at bytes) (window-at items n d low)) ∙ sym (ap (field_text bytes) (get_or-map place items n d (place d) low))

-- all that is printed
pub text-of : (bytes : List ℕ) (places : List Place) (sum : ℕ) → places ≡ packet_fields bytes → sum ≡ sum_words (numbers_at bytes (header_windows bytes))
    → flat_map (field_text bytes) places ++ verdict_text sum ≡ fields_text bytes
unfolding fields_text
text-of bytes places sum are is =
    ap (λ (l : List Place). flat_map (field_text bytes) l ++ verdict_text sum) are ∙ ap (λ (n : ℕ). flat_map (field_text bytes) (packet_fields bytes) ++ verdict_text n) is

-- why windows of a packet have no layout
pub header-fault : (bytes : List ℕ) (windows : List Window) (fault : Fault) → (HasHeaders bytes → IsLayout (8 * length bytes) windows)
    → (fault ≡ Memory) ⊎ ((fault ≡ Truncated) × (IsLayout (8 * length bytes) windows → ⊥)) → HeaderFault bytes fault
header-fault bytes windows fault has why =
    ⊎_elim (λ (memory : fault ≡ Memory). rw memory tt) (λ (short : (fault ≡ Truncated) × (IsLayout (8 * length bytes) windows → ⊥)). rw short.0 (λ headers. short.1 (has headers))) why
