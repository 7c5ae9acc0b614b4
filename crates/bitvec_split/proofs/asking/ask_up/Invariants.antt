use Rattle.std.proofs.Common.{ℕ, ◌-◌, Option}
use Rattle.std.specs.List.{range_with_len}
use Rattle.bitvec_slice.specs.Views.{seen}
use Rattle.bitvec_domain.specs.Predicates.{Asked, MayAskTimes, upward}
use Rattle.bitvec_split.proofs.asking.ask_up.Given as goal

-- what is asked from here on completes what was asked
abbrev pub invariant-loop-index : goal.invariant-loop-index
invariant-loop-index g l = record {
  callable : MayAskTimes g.P.FnMut (seen l.fn.bits).window.len ((seen l.fn.bits).window.len - l.index) l.pred;
  asked : (found : Option ℕ) (last : g.row.P.Denot)
      → Asked g.P.FnMut (seen l.fn.bits).bits l.pred (range_with_len l.index ((seen l.fn.bits).window.len - l.index)) found last
      → Asked g.P.FnMut (seen l.fn.bits).bits l.fn.pred (upward (seen l.fn.bits).window.len) found last;
}
