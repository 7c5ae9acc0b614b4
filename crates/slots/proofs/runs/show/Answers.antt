use Rattle.slots.proofs.RunLaws.{HasShown-next, ShowsRuns-end}
use Rattle.slots.proofs.runs.show.Goals as goal

pub loop-run-preserved : goal.loop-run-preserved
loop-run-preserved g c = record {
  inside = c.in-Some.ensures.run.taken.there.1;
  shown = HasShown-next _ _ _ _ _ _ c.loop-run.invariant.shown c.in-Some.ensures.run c.in_ok-print_range.ensures;
}

pub returns : goal.returns
returns g c = ShowsRuns-end _ _ _ _ c.loop-run.invariant.shown c.in_default.ensures.none
