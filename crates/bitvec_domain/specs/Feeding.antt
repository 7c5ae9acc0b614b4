-- What a list of bits feeds a hasher.
use Rattle.std.specs.Prelude.{Bool, List}
use Rattle.std.specs.Hash.{HashWrites, bool}
use Rattle.std.specs.List.{flat_map}

-- What a list of bits feeds a hasher: each bit as a `bool`, in order, and nothing else.
unfoldable pub bits_fed : List Bool → HashWrites
bits_fed bits = flat_map bool bits
