use Rattle.device.specs.Filter.{Has}
use Rattle.device.proofs.bloom.Bloom.maybe_has.Given as goal

abbrev pub invariant-loop-round : goal.invariant-loop-round
invariant-loop-round l = Has l.round l.self l.key
