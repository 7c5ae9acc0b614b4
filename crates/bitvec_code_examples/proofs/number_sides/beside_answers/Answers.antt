use Rattle.std.proofs.Common.{◌∙◌, arith, false, inl}
use Rattle.bitvec.specs.ChangesLaws.{number-unchanged}
use Rattle.bitvec.specs.Laws.{fields}
use Rattle.bitvec_code_examples.proofs.number_sides.beside_answers.Goals as goal

pub returns : goal.returns
returns g c = number-unchanged false false 8 _ _ 36 50 20 36 c.fill_with.ensures.outside (grind (arith, fields)) (inl (omega arith)) ∙ grind (arith, fields)
