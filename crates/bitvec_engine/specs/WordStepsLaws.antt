-- Under an order that works by words the bounds of block functions are numbers of word steps.
use Rattle.std.specs.Prelude.{◌≡◌, ℕ, ◌+◌, ◌-◌, ◌*◌, ◌/◌, ◌==◌, Bool, true, false, if◌then◌else◌, refl}
use Rattle.std.specs.Int.{div_ceil}
use Rattle.std.proofs.Common.{arith}
use Rattle.bitvec_cells.specs.declared.cells.CellsRead.{Ghosts as Access}
use Rattle.bitvec_cells.specs.Access.{CostsAtMost, OnlyReadsAtMost}
use Rattle.bitvec_store.specs.Width.{IsWidth}
use Rattle.bitvec_store.specs.WidthLaws.{at_each_width}
use Rattle.bitvec_cells.specs.Cost.{edit_loads, equal_loads, read_loads, step_span, work_steps, write_loads, write_stores}
use Rattle.bitvec_engine.specs.WordSteps.{EditsInSteps, ReadsInSteps, WritesInSteps, word_span}

steps-words : (n : ℕ) → work_steps true n ≡ div_ceil n 64
unfolding work_steps
steps-words n = omega arith

span-words : (b : ℕ) → IsWidth b → step_span b true ≡ word_span b
unfolding step_span
span-words b width = at_each_width (λ w. (64 + w - 1) / w + 1 ≡ word_span w) refl refl refl refl refl b width

-- A reader of `n` bits by words makes a step for each 64 bits, and loads in it the elements that 64 bits can touch.
pub read_loads-words : (b n : ℕ) → IsWidth b → read_loads b true n ≡ div_ceil n 64 * word_span b
unfolding read_loads
read_loads-words b n width = rw (steps-words n, span-words b width) refl

-- A writer of `n` bits by words makes two loads for each 64 bits.
pub write_loads-words : (b n : ℕ) → write_loads b true n ≡ div_ceil n 64 * 2
unfolding write_loads
write_loads-words b n = rw (steps-words n) refl

-- A writer of `n` bits by words stores for each 64 bits the elements that 64 bits can touch.
pub write_stores-words : (b n : ℕ) → IsWidth b → write_stores b true n ≡ div_ceil n 64 * word_span b
unfolding write_stores
write_stores-words b n width = rw (steps-words n, span-words b width) refl

equal_loads-case : (same : Bool) (b n : ℕ) → IsWidth b → (if same then read_loads b true n else 0) ≡ (if same then div_ceil n 64 else 0) * word_span b
equal_loads-case true b n width = read_loads-words b n width
equal_loads-case false b n width = omega arith

-- A comparison by words loads for each 64 bits the elements that they can touch, and nothing where the lengths differ.
pub equal_loads-words : (b n r : ℕ) → IsWidth b → equal_loads b true n r ≡ (if n == r then div_ceil n 64 else 0) * word_span b
equal_loads-words b n r width = equal_loads-case (n == r) b n width

module _ {E C : Type 0} (access : Access C E) (old new : C) (b n : ℕ) where
  -- The bound of a reader of `n` bits by words is one of word steps, one for each 64 bits.
  pub reads-words : IsWidth b → OnlyReadsAtMost access old new (read_loads b true n) → ReadsInSteps access old new b (div_ceil n 64)
  reads-words width did = rw (read_loads-words b n width) at did

  -- The bound of a writer of `n` bits by words is one of word steps, one for each 64 bits.
  pub writes-words : IsWidth b → CostsAtMost access old new (write_loads b true n) (write_stores b true n) → WritesInSteps access old new b (div_ceil n 64)
  writes-words width did = rw (write_loads-words b n, write_stores-words b n width) at did

  -- The bound of an editor of `n` bits by words is one of word steps, one for each 64 bits.
  pub edits-words : IsWidth b → CostsAtMost access old new (edit_loads b true n) (write_stores b true n) → EditsInSteps access old new b (div_ceil n 64)
  edits-words width did = rw (read_loads-words b n width, write_loads-words b n, write_stores-words b n width) at did

  -- The bound of a comparison of `n` bits with `r` by words is one of word steps, and none where the lengths differ.
  pub equals-words : (r : ℕ) → IsWidth b → OnlyReadsAtMost access old new (equal_loads b true n r) → ReadsInSteps access old new b (if n == r then div_ceil n 64 else 0)
  equals-words r width did = rw (equal_loads-words b n r width) at did

-- These laws turn the bounds of block functions into numbers of word steps.
pub ruleset in_words = (reads-words, writes-words, edits-words, equals-words)
