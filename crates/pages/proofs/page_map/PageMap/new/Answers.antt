use Rattle.std.proofs.Common.{arith, replicate}
use Rattle.bitvec.specs.Arrays.{lsb0_bits}
use Rattle.bitvec.specs.Laws.{bitwise}
use Rattle.pages.proofs.PageLaws.{summed-none}
use Rattle.pages.proofs.page_map.PageMap.new.Goals as goal

pub invariant_of-result : goal.invariant_of-result
invariant_of-result c =
    summed-none (lsb0_bits 64 (replicate 64 0)) (lsb0_bits 64 (replicate 1 0)) (grind (arith, bitwise)) (grind (arith, bitwise)) (λ k. grind (arith, bitwise)) (λ i. grind (arith, bitwise))
