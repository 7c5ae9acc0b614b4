use Rattle.std.proofs.Common.{◌+◌, ◌-◌, ◌≤◌, ◌++◌}
use Rattle.bitvec_base.specs.Memory.{element_bits}
use Rattle.bitvec_elements.specs.BitsFrom.{HasBitsFrom}
use Rattle.bitvec_within.specs.Candidates.{HasStarts}
use Rattle.bitvec_within.proofs.candidates.candidates_by_groups.Given as goal

abbrev pub invariant-loop-step : goal.invariant-loop-step
invariant-loop-step g l =
    let way = g.W.BitOrder.at in
    let both = element_bits 64 way l.low ++ element_bits 64 way l.high in
    record {
      bound : l.step ≤ l.count;
      has : HasStarts way l.low l.high l.needle l.step l.starts;
      front : HasBitsFrom way l.front both l.step;
      behind : HasBitsFrom way l.behind both (l.step + 64);
      wanted : HasBitsFrom way l.wanted (element_bits 64 way l.needle) l.step;
    }

abbrev pub decreases-loop-step : goal.decreases-loop-step
decreases-loop-step g l = l.count - l.step
