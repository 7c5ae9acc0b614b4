use Rattle.device.proofs.WorkLaws.{works}
use Rattle.device.proofs.work.work.Goals as goal

pub returns-in-Ok-clause-works : goal.returns-in-Ok-clause-works
returns-in-Ok-clause-works g c = works _ c.in-Some.part _ _ c.in-Some.ensures c.in-Ok.ensures
