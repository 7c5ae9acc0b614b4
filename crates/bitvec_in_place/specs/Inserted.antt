-- A bit more, and a bit fewer, among the first bits of a list.
use Rattle.std.specs.Prelude.{ℕ, Bool, List, take}
use Rattle.std.specs.List.{insert, remove}
use Rattle.bitvec_base.specs.Window.{write_at}

-- `inserted list len index bit` puts `bit` into the first `len` bits, before the one at `index`: each from there on stands one place on,
-- the last at `len`.
unfoldable pub inserted : List Bool → ℕ → ℕ → Bool → List Bool
inserted list len index bit = write_at list 0 (insert (take len list) index bit)

-- `removed list len index` takes the bit at `index` out of the first `len`: each behind it stands one place back, and place `len - 1` keeps
-- its bit.
unfoldable pub removed : List Bool → ℕ → ℕ → List Bool
removed list len index = write_at list 0 (remove (take len list) index)
