use Rattle.std.proofs.Common.{◌∙◌, arith, refl}
use Rattle.std.proofs.lemmas.List.{take_all}
use Rattle.bitvec_slice.specs.Views.{seen}
use Rattle.bitvec_field.proofs.Numbers.{from_bool-small, number-more, number-small}
use Rattle.bitvec_field.proofs.digits.number_of.Goals as goal

pub overflow_mul-number : goal.overflow_mul-number
overflow_mul-number g c = let small = number-small (seen c.args.group).bits c.loop-index.index (omega arith) (omega arith) in omega arith

pub overflow_add-number : goal.overflow_add-number
overflow_add-number g c = let small = number-small (seen c.args.group).bits c.loop-index.index (omega arith) (omega arith) in omega (arith, from_bool-small)

pub loop-index-preserved : goal.loop-index-preserved
loop-index-preserved g c = let more = number-more (seen c.args.group).bits c.loop-index.index (omega arith) in let was = c.loop-index.invariant in grind arith

pub returns : goal.returns
returns g c = let all = take_all c.loop-index.index (seen c.args.group).bits (omega arith) in c.loop-index.invariant ∙ rw all refl
