-- What a command is: one row of four entries.
use Rattle.std.specs.Prelude.{ℕ, Bool, ◌-◌, ◌&&◌, if◌then◌else◌, nat_le, Option, Some, None, List, length, slice_range}
use Rattle.bitvec_base.specs.declared.window.Window.{Window}
use Rattle.bitvec_base.specs.Window.{write_at}
use Rattle.bitvec_commands.specs.declared.command.Refusal.{Refusal}
use Rattle.bitvec_commands.specs.declared.command.Reply.{Reply}
use Rattle.bitvec_commands.specs.declared.command.Reply.TheVariants.{Done, Refused}
use Rattle.bitvec_commands.specs.Costs.{Cost, Place, accesses, behind}

-- why it is refused, if it is; and where it isn't, what it may cost, and of the list that it is about what it replies, and
-- what list it leaves
pub record CommandRow : Type 0 where
  pub refusal : Option Refusal
  pub cost : Place → Cost
  pub reply : List Bool → Reply
  pub list : List Bool → List Bool

-- ---- rows

-- a question: the list stays
abbrev pub asks : Option Refusal → (List Bool → Reply) → (Place → Cost) → CommandRow
asks refusal reply cost = record { refusal = refusal; cost = cost; reply = reply; list = λ list. list }

-- an edit has nothing to tell
abbrev pub edits : Option Refusal → (List Bool → List Bool) → (Place → Cost) → CommandRow
edits refusal new cost = record { refusal = refusal; cost = cost; reply = λ list. Done; list = new }

-- an edit that replies
abbrev pub both : Option Refusal → (List Bool → Reply) → (List Bool → List Bool) → (Place → Cost) → CommandRow
both refusal reply new cost = record { refusal = refusal; cost = cost; reply = reply; list = new }

-- refused: the list stays, at no cost
abbrev pub refused : Refusal → CommandRow
refused refusal = record { refusal = Some refusal; cost = accesses 0 0; reply = λ list. Refused refusal; list = λ list. list }

-- the row on the bits from..to of a list, as one on that list
abbrev pub on_range : ℕ → ℕ → CommandRow → CommandRow
on_range from to row = record {
  refusal = row.refusal;
  cost = behind from row.cost;
  reply = λ list. row.reply (slice_range list from to);
  list = λ list. write_at list from (row.list (slice_range list from to));
}

-- what comes of a row: what it says, unless it is refused
abbrev pub unless_refused : Option Refusal → CommandRow → CommandRow
unless_refused None row = row
unless_refused (Some refusal) row = refused refusal

-- What comes of a row: what it says, or its refusal.
abbrev pub outcome : CommandRow → CommandRow
outcome row = unless_refused row.refusal row

-- of steps each of which is a row, on a list of n bits
module _ {S : Type 0} (row_of : ℕ → S → CommandRow) where
  -- The reply of a step's row to a list.
  abbrev pub row_reply : List Bool → S → Reply
  row_reply list step = (row_of (length list) step).reply list

  -- The list that a step's row leaves of a list.
  abbrev pub row_list : List Bool → S → List Bool
  row_list list step = (row_of (length list) step).list list

-- ---- refusals

-- The refusal where the test fails, and none where it passes.
abbrev pub unless : Bool → Refusal → Option Refusal
unless test refusal = if test then None else Some refusal

-- The first of two refusals that is given.
abbrev pub or_else : Option Refusal → Option Refusal → Option Refusal
or_else None second = second
or_else (Some refusal) second = Some refusal

-- Whether the range from `from` up to `to` is in order and ends at most at `n`.
abbrev pub range_lies : ℕ → ℕ → ℕ → Bool
range_lies n from to = nat_le from to && nat_le to n

-- Whether the window lies within `n` places.
abbrev pub lies_in : Window → ℕ → Bool
lies_in window n = nat_le window.start n && nat_le window.len (n - window.start)
