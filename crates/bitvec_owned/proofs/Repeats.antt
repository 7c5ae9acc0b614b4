-- A list several times, written place after place.
use Rattle.std.specs.Prelude.{◌≡◌, ℕ, ◌+◌, ◌*◌, ◌<◌, ◌≤◌, List, [], length}
use Rattle.std.specs.List.{repeat}
use Rattle.std.proofs.Common.{◌∙◌, ap, arith, mul_comm}
use Rattle.std.proofs.Concat.{length-repeat, repeat_push}
use Rattle.std.proofs.Math.Nat.{add-mul, mul-le-mul_right}
use Rattle.std.proofs.lemmas.List.{nil_from_length}
use Rattle.bitvec_base.specs.Window.{write_at}
use Rattle.bitvec_base.specs.WriteLaws.{write_at-next}

module _ {X : Type 0} (list : List X) where
  pub length-repeated : (n : ℕ) → length (repeat n list) ≡ length list * n
  length-repeated n = length-repeat n list ∙ mul_comm n (length list)

  pub repeat-none : (n : ℕ) → length list * n ≡ 0 → repeat n list ≡ []
  repeat-none n none = let long = length-repeated n in nil_from_length _ (omega arith)

  -- the place of a repeat, of several that fit in m places
  pub repeat-fits : (n copies m : ℕ) → n < copies → length list * copies ≤ m → n * length list + length list ≤ m
  repeat-fits n copies m more room =
      let next = add-mul n 1 (length list) in
      let below = mul-le-mul_right {m = n + 1} {n = copies} (length list) (omega arith) in
      omega arith

  pub repeat-next : (before now after : List X) (n copies : ℕ) → n < copies → length list * copies ≤ length before
      → now ≡ write_at before 0 (repeat n list) → after ≡ write_at now (n * length list) list → after ≡ write_at before 0 (repeat (n + 1) list)
  repeat-next before now after n copies more room so_far step =
      let long = length-repeat n list in
      let fits = repeat-fits n copies (length before) more room in
      let place : n * length list ≡ 0 + length (repeat n list) = omega arith in
      step
      ∙ rw (so_far, place) (write_at-next before 0 (repeat n list) list (omega arith))
      ∙ ap (write_at before 0) (repeat_push n list)
