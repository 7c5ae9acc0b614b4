use Rattle.std.proofs.Common.{arith, inr, lit<, rules}
use Rattle.std.proofs.lemmas.List.{map-id}
use Rattle.bitvec_test_support.specs.base.BitsFixMemory.{write_at-keeps}
use Rattle.bitvec_test_support.specs.base.HiLoLaws.{hilo_permutes}
use Rattle.bitvec_test_support.specs.base.MemoryLaws.{length-element_bits}
use Rattle.bitvec_engine_tests.proofs.accessors.store_first_word.Goals as goal

pub returns : goal.returns
returns c e h =
    let wrote = rw (map-id c.store_first.new.elements, map-id c.args.elements.now) at c.store_first.ensures in
    write_at-keeps 32 _ (lit< tt) (hilo_permutes 32 (search rules)) _ _ _ _ (omega (arith, length-element_bits)) wrote
    e (inr (omega (arith, length-element_bits))) (c.fit.ensures e) (λ _. search (rules, c.type_inv.elements e))
