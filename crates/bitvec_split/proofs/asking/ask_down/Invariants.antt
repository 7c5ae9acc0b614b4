use Rattle.std.proofs.Common.{ℕ, ◌-◌, Option}
use Rattle.bitvec_slice.specs.Views.{seen}
use Rattle.bitvec_domain.specs.Predicates.{Asked, MayAskTimes, downward}
use Rattle.bitvec_split.proofs.asking.ask_down.Given as goal

-- what is asked from here on completes what was asked
abbrev pub invariant-loop-last : goal.invariant-loop-last
invariant-loop-last g l = record {
  callable : MayAskTimes g.P.FnMut (seen l.fn.bits).window.len ((seen l.fn.bits).window.len - (l.fn.end - l.last)) l.pred;
  asked : (found : Option ℕ) (last : g.row.P.Denot)
      → Asked g.P.FnMut (seen l.fn.bits).bits l.pred (downward l.last) found last
      → Asked g.P.FnMut (seen l.fn.bits).bits l.fn.pred (downward l.fn.end) found last;
}
