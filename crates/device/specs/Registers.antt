-- Fields of four registers of 32 bits, told as 128 bits, the lowest bit of each register first.
use Rattle.std.specs.Prelude.{◌≡◌, ℕ, ◌<◌, ◌≤◌, ◌⊎◌, List, Bool, false, slice_index_or}
use Rattle.bitvec.specs.Arrays.{lsb0_bits}
use Rattle.bitvec.specs.Ranges.{number_in, numbered}
use Rattle.device.specs.declared.uart.Uart.{Uart}

abbrev pub registers_of : Uart → List ℕ
registers_of uart = uart.registers

abbrev pub bits_of : Uart → List Bool
bits_of uart = lsb0_bits 32 uart.registers

-- the fields: the baud divisor, the parity, the data
abbrev pub baud_of : Uart → ℕ
baud_of uart = number_in false false 32 (bits_of uart) 4 20

abbrev pub parity_of : Uart → ℕ
parity_of uart = number_in false false 32 (bits_of uart) 32 34

abbrev pub data_of : Uart → ℕ
data_of uart = number_in false false 32 (bits_of uart) 72 80

-- the number was stored in the bits from `from` up to, without, `to`, and no other bit changed
abbrev pub SetsField : ℕ → ℕ → ℕ → Uart → Uart → Type 0
SetsField from to number old new = bits_of new ≡ numbered false false 32 (bits_of old) from to number

-- a place in none of the three fields
pub record IsReserved (place : ℕ) : Type 0 where
  pub baud : (place < 4) ⊎ (20 ≤ place)
  pub parity : (place < 32) ⊎ (34 ≤ place)
  pub byte : (place < 72) ⊎ (80 ≤ place)

abbrev pub KeepsReserved : Uart → Uart → Type 0
KeepsReserved old new = (place : ℕ) → IsReserved place → slice_index_or (bits_of new) place false ≡ slice_index_or (bits_of old) place false
