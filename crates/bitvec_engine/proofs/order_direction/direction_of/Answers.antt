use Rattle.bitvec_engine.specs.Direction.{HasDirection}
use Rattle.bitvec_engine.proofs.order_direction.direction_of.Goals as goal

pub returns-then-agrees : goal.returns-then-agrees
unfolding HasDirection
returns-then-agrees g c = c.agrees.ensures.0 c.if-agrees.true

pub returns-then-agrees-2 : goal.returns-then-agrees-2
unfolding HasDirection
returns-then-agrees-2 g c = c.agrees-else-agrees.ensures.0 c.if-agrees-2.true

pub returns-else-agrees-2 : goal.returns-else-agrees-2
unfolding HasDirection
returns-else-agrees-2 g c = (λ up. let told = c.agrees.ensures.1 up in let not = c.if-agrees.false in cc, λ down. let told = c.agrees-else-agrees.ensures.1 down in let not = c.if-agrees-2.false in cc)
