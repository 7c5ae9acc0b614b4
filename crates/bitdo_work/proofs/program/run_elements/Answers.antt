use Rattle.std.proofs.Common.{map, rules}
use Rattle.bitdo_work.specs.Arguments.{request}
use Rattle.bitdo_work.proofs.RunLaws.{IsRun_by}
use Rattle.bitdo_work.proofs.program.run_elements.Goals as goal

pub returns-clause-run : goal.returns-clause-run
returns-clause-run g c = IsRun_by _ _ (request g.T.BitStore.BITS g.O.BitOrder.at (map g.T.BitStore.value c.args.memory.now) (map g.T.BitStore.value c.args.right.now) c.args.window) _ _ _ _ _ _ _ _
    c.new-cells.ensures.numbers (search rules) c.new-right.ensures.numbers c.run.ensures.made c.run.ensures.runs
