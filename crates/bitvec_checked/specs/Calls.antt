-- What a call does, by its status: 0 where it is carried out.
--
-- `order` is the number of an order, and elements have b bits; `old` and `new` are what was there before and is there after.
use Rattle.std.specs.Prelude.{◌≡◌, ◌≢◌, ℕ, ◌-◌, Bool, true, false, List, [], count_by, map, slice_index_or, MatchOption}
use Rattle.bitvec_base.specs.declared.window.Window.{Window}
use Rattle.bitvec_base.specs.Lists.{combined}
use Rattle.bitvec_base.specs.Memory.{Writes, list_in, memory_bits}
use Rattle.bitvec_commands.specs.declared.command.Op.{Op}
use Rattle.bitvec_commands.specs.declared.command.Op.TheVariants.{And, CopyFrom}
use Rattle.bitvec_commands.specs.declared.command.Reply.{Reply}
use Rattle.bitvec_commands.specs.Commands.{op_row}
use Rattle.bitvec_checked.specs.Every.{every, with_every}
use Rattle.bitvec_checked.specs.Replies.{index_of}
use Rattle.bitvec_checked.specs.Statuses.{or_next, status_beside, status_of, step_status, steps_status, width_status, window_status}

-- the fact of the order's places, and of whether its first bit is the most significant one
pub record Under (order : ℕ) (P : (ℕ → ℕ → ℕ) → Bool → Type 0) : Type 0 where
  pub lsb0 : order ≡ 0 → P (λ b i. i) false
  pub msb0 : order ≡ 1 → P (λ b i. b - 1 - i) true

module _ {E : Type 0} (order b : ℕ) (value : E → ℕ) where
  -- ---- a command on a window of one memory

  pub record EditsBy (op : Op) (window : Window) (old new : List E) (status : ℕ) : Type 0 where
    pub status_is : status ≡ status_of order b (map value old) window op
    pub writes : status ≡ 0 → Under order (λ at high. Writes b at (map value old) (map value new) window ((op_row [] window.len op).list (list_in b at (map value old) window)))
    pub unchanged : status ≢ 0 → new ≡ old

  -- it writes the answer that its reply has
  pub record Asks {X : Type 0} (op : Op) (answer : Reply → X) (window : Window) (elements : List E) (old new : X) (status : ℕ) : Type 0 where
    pub status_is : status ≡ status_of order b (map value elements) window op
    pub answers : status ≡ 0 → Under order (λ at high. new ≡ answer ((op_row [] window.len op).reply (list_in b at (map value elements) window)))
    pub unchanged : status ≢ 0 → new ≡ old

  -- it writes the index that its reply has, and has the status 11 where there is none
  pub record Seeks (op : Op) (window : Window) (elements : List E) (old new : ℕ) (status : ℕ) : Type 0 where
    pub refused : status_of order b (map value elements) window op ≢ 0 → status ≡ status_of order b (map value elements) window op
    pub found : status_of order b (map value elements) window op ≡ 0
        → Under order (λ at high. MatchOption (index_of ((op_row [] window.len op).reply (list_in b at (map value elements) window))) (status ≡ 11) (λ index. (status ≡ 0) × (new ≡ index)))
    pub unchanged : status ≢ 0 → new ≡ old

  -- ---- a command with a window of a right memory

  pub record EditsBeside (op : Op) (window : Window) (old new right : List E) (status : ℕ) : Type 0 where
    pub status_is : status ≡ status_beside order b (map value old) window (map value right) op
    pub writes : status ≡ 0 → Under order (λ at high. Writes b at (map value old) (map value new) window ((op_row (memory_bits b at (map value right)) window.len op).list (list_in b at (map value old) window)))
    pub unchanged : status ≢ 0 → new ≡ old

  pub record AsksBeside {X : Type 0} (op : Op) (answer : Reply → X) (window : Window) (elements right : List E) (old new : X) (status : ℕ) : Type 0 where
    pub status_is : status ≡ status_beside order b (map value elements) window (map value right) op
    pub answers : status ≡ 0 → Under order (λ at high. new ≡ answer ((op_row (memory_bits b at (map value right)) window.len op).reply (list_in b at (map value elements) window)))
    pub unchanged : status ≢ 0 → new ≡ old

  -- an answer about the bits of two windows, which is refused as `and` of them is
  pub record Tells {X : Type 0} (answer : List Bool → List Bool → X) (window right_window : Window) (elements right : List E) (old new : X) (status : ℕ) : Type 0 where
    pub status_is : status ≡ status_beside order b (map value elements) window (map value right) (And right_window)
    pub answers : status ≡ 0 → Under order (λ at high. new ≡ answer (list_in b at (map value elements) window) (list_in b at (map value right) right_window))
    pub unchanged : status ≢ 0 → new ≡ old

  -- bits that are made of those of two windows, 0 past the right one's end, which is refused as `and` of them is
  pub record Joins (f : Bool → Bool → Bool) (window right_window : Window) (old new right : List E) (status : ℕ) : Type 0 where
    pub status_is : status ≡ status_beside order b (map value old) window (map value right) (And right_window)
    pub writes : status ≡ 0 → Under order (λ at high. Writes b at (map value old) (map value new) window (combined f (list_in b at (map value old) window) (list_in b at (map value right) right_window)))
    pub unchanged : status ≢ 0 → new ≡ old

  -- an exchange of two windows, which is refused as a copy of the right one is
  pub record Swaps (window right_window : Window) (old new right_old right_new : List E) (status : ℕ) : Type 0 where
    pub status_is : status ≡ status_beside order b (map value old) window (map value right_old) (CopyFrom right_window)
    pub writes : status ≡ 0 → Under order (λ at high. Writes b at (map value old) (map value new) window (list_in b at (map value right_old) right_window))
    pub right_writes : status ≡ 0 → Under order (λ at high. Writes b at (map value right_old) (map value right_new) right_window (list_in b at (map value old) window))
    pub unchanged : status ≢ 0 → (new ≡ old) × (right_new ≡ right_old)

  -- ---- a number of a window's bits, from 1 to 64 of them

  pub record Loads (loaded : Bool → ℕ → ℕ → List Bool → ℕ) (window : Window) (elements : List E) (old new : ℕ) (status : ℕ) : Type 0 where
    pub status_is : status ≡ or_next (window_status order b (map value elements) window) (width_status window.len)
    pub number : status ≡ 0 → Under order (λ at high. new ≡ loaded high b window.start (list_in b at (map value elements) window))
    pub unchanged : status ≢ 0 → new ≡ old

  pub record Stores (stored : Bool → ℕ → ℕ → ℕ → List Bool → List Bool) (number : ℕ) (window : Window) (old new : List E) (status : ℕ) : Type 0 where
    pub status_is : status ≡ or_next (window_status order b (map value old) window) (width_status window.len)
    pub writes : status ≡ 0 → Under order (λ at high. Writes b at (map value old) (map value new) window (stored high b window.start number (list_in b at (map value old) window)))
    pub unchanged : status ≢ 0 → new ≡ old

  -- ---- every so many bits of a window

  pub record FillsEvery (step : ℕ) (bit : Bool) (window : Window) (old new : List E) (status : ℕ) : Type 0 where
    pub status_is : status ≡ or_next (window_status order b (map value old) window) (step_status step)
    pub writes : status ≡ 0 → Under order (λ at high. Writes b at (map value old) (map value new) window (with_every step (λ k. bit) (list_in b at (map value old) window)))
    pub unchanged : status ≢ 0 → new ≡ old

  pub record CountsEvery (step : ℕ) (window : Window) (elements : List E) (old new : ℕ) (status : ℕ) : Type 0 where
    pub status_is : status ≡ or_next (window_status order b (map value elements) window) (step_status step)
    pub answers : status ≡ 0 → Under order (λ at high. new ≡ count_by (λ bit. bit) (every step (list_in b at (map value elements) window)))
    pub unchanged : status ≢ 0 → new ≡ old

  -- each gets one of every so many right bits, which are as many
  pub record CopiesEvery (step : ℕ) (window right_window : Window) (right_step : ℕ) (old new right : List E) (status : ℕ) : Type 0 where
    pub status_is : status ≡ or_next (status_beside order b (map value old) window (map value right) (And right_window)) (steps_status step window.len right_step right_window.len)
    pub writes : status ≡ 0 → Under order (λ at high. Writes b at (map value old) (map value new) window
        (with_every step (λ k. slice_index_or (every right_step (list_in b at (map value right) right_window)) k false) (list_in b at (map value old) window)))
    pub unchanged : status ≢ 0 → new ≡ old
