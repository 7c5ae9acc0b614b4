-- A bit that was set or cleared at an index that may lie past the end: what each bit is, and was.
use Rattle.std.specs.Prelude.{◌≡◌, ℕ, Bool, false, true, List, slice_index_or, slice_set}
use Rattle.std.proofs.Common.{arith}
use Rattle.std.proofs.lemmas.Grind.{get_or-set_at}
use Rattle.std.proofs.lemmas.List.{get_or-set_other, get_or_past, length-set}

module _ (list : List Bool) (i k : ℕ) where
  -- A bit that is 0 is 0 after any bit was cleared.
  pub cleared-stays : slice_index_or list k false ≡ false → slice_index_or (slice_set list i false) k false ≡ false
  cleared-stays was = grind (arith, get_or-set_at, get_or-set_other, get_or_past, length-set)

  -- A bit that is 1 after a bit was cleared was 1 before.
  pub cleared-was : slice_index_or (slice_set list i false) k false ≡ true → slice_index_or list k false ≡ true
  cleared-was is = grind (arith, get_or-set_at, get_or-set_other, get_or_past, length-set)

  -- A bit that is 1 is 1 after any bit was set.
  pub set-stays : slice_index_or list k false ≡ true → slice_index_or (slice_set list i true) k false ≡ true
  set-stays was = grind (arith, get_or-set_at, get_or-set_other, get_or_past, length-set)

  -- A bit that is 0 after a bit was set was 0 before.
  pub set-was : slice_index_or (slice_set list i true) k false ≡ false → slice_index_or list k false ≡ false
  set-was is = grind (arith, get_or-set_at, get_or-set_other, get_or_past, length-set)
