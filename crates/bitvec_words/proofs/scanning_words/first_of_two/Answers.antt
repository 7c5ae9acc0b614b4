use Rattle.std.proofs.Common.{arith, refl, sym}
use Rattle.bitvec_base.specs.MemoryLaws.{length-element_bits}
use Rattle.bitvec_words.proofs.ScanLemmas.{first-behind, first-below, first-front, first-lacks}
use Rattle.bitvec_words.proofs.scanning_words.first_of_two.Goals as goal

pub returns-in-Some : goal.returns-in-Some
returns-in-Some g c = first-front c.args.want _ _ c.in-Some.ensures refl

pub returns-in_err-found : goal.returns-in_err-found
returns-in_err-found g c = rw c.from_residual.ensures (first-lacks c.args.want _ _ c.in_default.ensures c.in_err-found.ensures refl)

pub overflow_add-result : goal.overflow_add-result
overflow_add-result g c =
    rw c.BITS.ensures (omega (arith, first-below g.T.BitStore.BITS g.O.BitOrder.at _ _ c.args.want c.in_ok-found.ensures))

pub returns : goal.returns
returns g c = rw c.BITS.ensures (first-behind c.args.want _ _ _ c.in_default.ensures c.in_ok-found.ensures (sym (length-element_bits _ g.O.BitOrder.at _)) refl)
