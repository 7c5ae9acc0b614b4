-- What is done with one element, as a number of b bits.
use Rattle.std.specs.Prelude.{ℕ, ◌-◌, ◌^◌, Bool, if◌then◌else◌, bit_and, bit_or}

-- the number with a mask's bits set, or cleared
abbrev pub put_mask : ℕ → ℕ → ℕ → Bool → ℕ
put_mask b v mask bit = if bit then bit_or v mask else bit_and v (2 ^ b - 1 - mask)
