-- What contracts see of an accessor that reads elements as those of another type.
use Rattle.bitvec_cells.specs.declared.shared.Shared.{Shared}
use Rattle.bitvec_store.specs.declared.store.BitStore.{Ghosts as Store}
use Rattle.bitvec_elements.specs.declared.converting.Converted.{Converted}

-- The accessor of the elements as they are, before their conversion.
abbrev pub unconverted : {T U : Type 0} {t : Store T} {u : Store U} → Converted T U t u → Shared U
unconverted it = it.cells
