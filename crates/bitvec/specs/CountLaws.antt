-- How many bits of a range are 1, and how many 0: at most as many as it has places.
use Rattle.std.specs.Prelude.{ℕ, ◌-◌, ◌≤◌, Bool, not, List, count_by, drop}
use Rattle.std.proofs.Common.{arith, length-take}
use Rattle.std.proofs.lemmas.List.Sums.{count_by-le-length}
use Rattle.bitvec_in_place.specs.Ranges.{bits_in}

counted : (test : Bool → Bool) (list : List Bool) (from to : ℕ) → count_by test (bits_in list from to) ≤ to - from
unfolding bits_in
counted test list from to =
    let count = count_by-le-length test (bits_in list from to) in
    let long = length-take (to - from) (drop from list) in
    omega arith

module _ (list : List Bool) (from to : ℕ) where
  -- At most `to - from` bits of the range `from..to` are 1.
  pub ones-in_bound : count_by (λ (bit : Bool). bit) (bits_in list from to) ≤ to - from
  ones-in_bound = counted (λ (bit : Bool). bit) list from to

  -- At most `to - from` bits of the range `from..to` are 0.
  pub zeros-in_bound : count_by not (bits_in list from to) ≤ to - from
  zeros-in_bound = counted not list from to
