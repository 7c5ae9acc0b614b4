-- The elements of a sequence that begins at their first bit: its bits, and zeros behind them.
use Rattle.std.specs.Prelude.{◌≡◌, ℕ, ◌+◌, ◌-◌, ◌*◌, ◌≤◌, Bool, false, List, ◌++◌, length, replicate, take}
use Rattle.std.specs.Int.{div_ceil}
use Rattle.std.proofs.Common.{arith, ◌∙◌, ap}
use Rattle.std.proofs.lemmas.List.{drop-replicate}
use Rattle.bitvec_slice.specs.Seen.{Seen}
use Rattle.bitvec_owned.specs.Copies.{Holds}
use Rattle.bitvec.specs.ListNumbersLaws.{written-first}

module _ {T : Type 0} (b : ℕ) (list : List Bool) (sequence : Seen T) (holds : Holds b list 0 sequence) where
  -- The memory of a sequence that holds a list from its first bit on has the list, and zeros behind it.
  pub held-memory : sequence.memory ≡ list ++ replicate (b * length sequence.elements - length list) false
  held-memory =
      holds.memory ∙ written-first (replicate (b * length sequence.elements) false) list
      ∙ ap (λ (l : List Bool). list ++ l) (drop-replicate (length list) (b * length sequence.elements) false)

  -- Such a sequence has just as many elements as its bits touch.
  pub held-count : length sequence.elements ≡ div_ceil (length list) b
  held-count = let first : 0 + length list ≡ length list = omega arith in holds.count ∙ ap (λ (n : ℕ). div_ceil n b) first
