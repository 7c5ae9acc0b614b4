use Rattle.std.proofs.Common.{◌≡◌, ℕ, ◌-◌, ◌^◌, arith, ap, ◌∙◌}
use Rattle.std.proofs.lemmas.Nat.Bits.{ones_shr}
use Rattle.bitvec_numbers.proofs.integers.greatest.Goals as goal

pub returns : goal.returns
returns c =
    let back : 128 - (128 - c.args.bits) ≡ c.args.bits = omega arith in
    ones_shr 128 (128 - c.args.bits) (omega arith) ∙ ap (λ (n : ℕ). 2 ^ n - 1) back
