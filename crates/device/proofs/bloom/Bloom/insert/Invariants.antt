use Rattle.device.specs.Filter.{Inserts}
use Rattle.device.proofs.bloom.Bloom.insert.Given as goal

abbrev pub invariant-loop-round : goal.invariant-loop-round
invariant-loop-round l = Inserts l.round l.key l.fn.self l.self
