-- What a borrowed slice ends as, where it was lent on: as many elements as before.
use Rattle.std.specs.Prelude.{◌≡◌, ℕ, List, [], ◌++◌, drop, length, refl, slice_range, take}
use Rattle.std.specs.List.{refill, length_refill}
use Rattle.std.specs.Borrow.{MutBor}
use denote.Ref.{NamedLft}
use mir.Syntax.{named}

-- The borrowed slice with the list `xs`, cut to its length or filled up with its old values.
abbrev pub refilled : {T : Type 0} → MutBor (List T) → List T → MutBor (List T)
refilled r xs = record r { now = refill (length r.now) r.now xs }

-- Refilling a borrowed slice leaves it as long as before.
pub length_refilled : {T : Type 0} (r : MutBor (List T)) (xs : List T) → length r.now ≡ length (refilled r xs).now
length_refilled r xs = length_refill (length r.now) r.now xs refl

-- The list with `ws`, cut or filled up to as many, in the place of its elements from `start` up to `end`.
abbrev pub with_range : {X : Type 0} → List X → ℕ → ℕ → List X → List X
with_range xs start end ws =
    let mid = slice_range xs start end in
    take start xs ++ (refill (length mid) mid ws ++ drop end xs)

-- The lifetime at which a lender itself borrows, the second one of its method.
abbrev pub of_lender : NamedLft
of_lender = record { mir = named 1; lft = [] }
