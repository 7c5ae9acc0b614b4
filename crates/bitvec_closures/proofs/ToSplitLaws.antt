-- What a call takes of what is left.
use Rattle.std.specs.Prelude.{◌≡◌, ℕ, ◌+◌, ◌-◌, ◌≤◌, Bool, true, false, refl}
use Rattle.std.specs.declared.ops.Range.{Range}
use Rattle.std.proofs.Common.{arith, inl, inr, ⊎_elim}
use Rattle.bitvec_split.specs.Splits.{LieBeside}
use Rattle.bitvec_closures.specs.ToSplit.{TakesFrom, most_left}
use Rattle.bitvec_closures.specs.declared.left.ToSplit.{ToSplit}

most-unfinished : (from to : ℕ) (finished : Bool) → finished ≡ false → most_left (record { from = from; to = to; finished = finished }) ≡ to - from + 1
most-unfinished from to false is = refl
most-unfinished from to true is = absurd cc

most-high : (from to : ℕ) (finished : Bool) → most_left (record { from = from; to = to; finished = finished }) ≤ to - from + 1
most-high from to false = omega arith
most-high from to true = omega arith

pub takes-beside : (s : ToSplit) (piece rest : Range ℕ) (done : Bool) → s.finished ≡ false → s.from ≤ s.to → LieBeside (s.to - s.from) piece rest
    → TakesFrom s (record { start = s.from + piece.start; end = s.from + piece.end }) (record { from = s.from + rest.start; to = s.from + rest.end; finished = done })
takes-beside s piece rest done more order beside =
    let inner = beside.order in
    let end = beside.end in
    let left = beside.left in
    let to = beside.to in
    let fewer = beside.fewer in
    let before = most-unfinished s.from s.to s.finished more in
    let after = most-high (s.from + rest.start) (s.from + rest.end) done in
    record {
      start = omega arith;
      order = omega arith;
      end = omega arith;
      from = omega arith;
      rest = omega arith;
      to = omega arith;
      apart = ⊎_elim (λ behind. inl (omega arith)) (λ ahead. inr (omega arith)) beside.apart;
      fewer = omega arith;
    }
