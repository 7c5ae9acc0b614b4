use Rattle.std.proofs.Common.{◌≡◌, ℕ, ◌==◌, ◌/◌, ◌%◌, arith, ap, ◌∙◌, bit_or}
use Rattle.std.proofs.lemmas.Bool.Decides.{nat_tests}
use Rattle.std.proofs.lemmas.Nat.{div-add-mod'}
use Rattle.bitvec_words.specs.SameLaws.{or_zero}
use Rattle.bitvec_combine.proofs.comparing.is_zero.Goals as goal

-- a number is 0 where its halves are
by_halves : (n w : ℕ) → (bit_or (n % w) (n / w) == 0) ≡ (n == 0)
by_halves n w = let parts = div-add-mod' n w in grind (arith, nat_tests, or_zero (n % w) (n / w))

pub returns : goal.returns
returns g c = by_halves c.to_u128-number.result 18446744073709551616 ∙ ap (λ (n : ℕ). n == 0) c.to_u128-number.ensures.number
