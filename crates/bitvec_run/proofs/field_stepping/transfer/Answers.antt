use Rattle.std.proofs.Common.{rules, Bool, List, ap}
use Rattle.bitvec_base.specs.WritesLaws.{Writes-nothing}
use Rattle.bitvec_commands.specs.declared.command.Reply.TheVariants.{Number}
use Rattle.bitvec_run.proofs.field_stepping.transfer.Goals as goal

pub returns-in-LoadLe : goal.returns-in-LoadLe
returns-in-LoadLe g c = λ (right : List Bool). rw c.in-LoadLe.is record {
  reply = ap Number c.load_le.ensures.value;
  writes = Writes-nothing _ _ c.requires.window c.load_le.ensures.reads.numbers;
  cost = search rules;
}

pub returns-in-LoadBe : goal.returns-in-LoadBe
returns-in-LoadBe g c = λ (right : List Bool). rw c.in-LoadBe.is record {
  reply = ap Number c.load_be.ensures.value;
  writes = Writes-nothing _ _ c.requires.window c.load_be.ensures.reads.numbers;
  cost = search rules;
}
