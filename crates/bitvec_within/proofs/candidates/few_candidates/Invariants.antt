use Rattle.std.proofs.Common.{◌++◌}
use Rattle.bitvec_base.specs.Memory.{element_bits}
use Rattle.bitvec_elements.specs.BitsFrom.{HasBitsFrom}
use Rattle.bitvec_within.specs.Candidates.{HasStarts}
use Rattle.bitvec_within.proofs.candidates.few_candidates.Given as goal

abbrev pub invariant-loop-step : goal.invariant-loop-step
invariant-loop-step g l =
    let way = g.W.BitOrder.at in
    record {
      has : HasStarts way l.low l.high l.needle l.step l.starts;
      front : HasBitsFrom way l.front (element_bits 64 way l.low ++ element_bits 64 way l.high) l.step;
      wanted : HasBitsFrom way l.wanted (element_bits 64 way l.needle) l.step;
    }
