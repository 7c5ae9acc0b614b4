-- The end of an element at which an order starts.
use Rattle.std.specs.Prelude.{◌≡◌, ℕ, ◌-◌, ◌<◌, Bool, if◌then◌else◌}

-- the order runs through an element of b bits from the most significant one, where `high`, and from the least significant one else
abbrev pub RunsFrom : Bool → ℕ → (ℕ → ℕ → ℕ) → Type 0
RunsFrom high b at = (i : ℕ) → i < b → at b i ≡ (if high then b - 1 - i else i)
