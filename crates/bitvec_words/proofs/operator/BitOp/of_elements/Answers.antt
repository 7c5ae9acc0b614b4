use Rattle.bitvec_words.specs.ElementLaws.{element-and, element-and_not, element-or, element-xor}
use Rattle.bitvec_words.proofs.operator.BitOp.of_elements.Goals as goal

pub returns-in-And : goal.returns-in-And
returns-in-And g c = rw (c.in-And.is, c.and.ensures) (element-and _ _ _ _)

pub returns-in-Or : goal.returns-in-Or
returns-in-Or g c = rw (c.in-Or.is, c.or.ensures) (element-or _ _ _ _)

pub returns-in-Xor : goal.returns-in-Xor
returns-in-Xor g c = rw (c.in-Xor.is, c.xor.ensures) (element-xor _ _ _ _)

pub returns-in-AndNot : goal.returns-in-AndNot
returns-in-AndNot g c = rw (c.in-AndNot.is, c.xor-in-AndNot.ensures, c.and-in-AndNot.ensures) (element-and_not _ _ _ _)
