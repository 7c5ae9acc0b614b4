-- What is printed of the fields of a packet.
use Rattle.std.specs.Prelude.{ℕ, nat_eq, if◌then◌else◌, List, [], ◌∷◌, ◌++◌, codes}
use Rattle.std.specs.Fmt.{decimal}
use Rattle.std.specs.List.{flat_map}
use Rattle.packet.specs.Checksums.{sum_words}
use Rattle.packet.specs.Packets.{Place, header_windows, number_at, numbers_at, packet_fields}

-- the text on a line of its own
abbrev pub line_of : List ℕ → List ℕ
line_of text = text ++ 10 ∷ []

-- a field: its name, where it begins, how many bits it has, and its number
abbrev pub field_line : Place → ℕ → List ℕ
field_line field number = line_of (field.name ++ codes " " ++ decimal field.window.start ++ codes " " ++ decimal field.window.len ++ codes " " ++ decimal number)

abbrev pub field_text : List ℕ → Place → List ℕ
field_text bytes field = field_line field (number_at bytes field.window)

-- whether the checksum is right, by the sum of the words
abbrev pub verdict_text : ℕ → List ℕ
verdict_text sum = line_of (codes "checksum " ++ (if nat_eq sum 65535 then codes "right" else codes "wrong"))

-- all fields, in their order, and the verdict
unfoldable pub fields_text : List ℕ → List ℕ
fields_text bytes = flat_map (field_text bytes) (packet_fields bytes) ++ verdict_text (sum_words (numbers_at bytes (header_windows bytes)))
