use Rattle.std.specs.Prelude.{ℕ, ◌<◌, ◌≤◌}
use Rattle.std.proofs.Common.{arith, rules}
use Rattle.std.proofs.lemmas.Grind.{div_ceil_times}
use Rattle.bitvec_store.specs.WidthLaws.{width_some}
use Rattle.bitvec_slice.specs.Touched.{end_touched}
use Rattle.bitvec_slice.specs.TouchedLaws.{Touches, touches}
use Rattle.bitvec_slice.proofs.touching.touched_range.Goals as goal

-- the elements up to the last that is touched have the places
held : (b start end : ℕ) → 0 < b → start ≤ end → Touches b (end_touched b end) start end
held b start end some order = let ends = div_ceil_times end b some in touches b (end_touched b end) start end some order (omega arith)

pub returns-clause-order : goal.returns-clause-order
returns-clause-order g c = let is = held g.T.BitStore.BITS c.args.start c.args.end (width_some _ g.met.T.BitStore.width_law) c.requires in search rules

pub returns-clause-holds : goal.returns-clause-holds
returns-clause-holds g c = let is = held g.T.BitStore.BITS c.args.start c.args.end (width_some _ g.met.T.BitStore.width_law) c.requires in search rules
