-- What contracts see of a reader and of a writer of bits.
use Rattle.std.specs.Prelude.{◌≡◌, ◌↔◌, ◌≤◌, ℕ, Bool, List, Result, IfErr, IsOk, OnErr, drop, length, map}
use Rattle.std.specs.Borrow.{GName}
use Rattle.bitvec_store.specs.declared.store.BitStore.{Ghosts as Store}
use Rattle.bitvec_base.specs.declared.order.BitOrder.{Ghosts as Order}
use Rattle.bitvec_base.specs.Memory.{memory_bits}
use Rattle.bitvec_slice.specs.Views.{seen}
use Rattle.bitvec_in_place.specs.declared.cursor_error.CursorError.{CursorError}
use Rattle.bitvec_in_place.specs.declared.reader.BitReader.{BitReader}
use Rattle.bitvec_in_place.specs.declared.writer.BitWriter.{BitWriter}

-- `Answers fits why result` says that a call was carried out exactly where `fits` holds, and else refused with `why`.
pub record Answers {V : Type 0} (fits : Type 0) (why : CursorError) (result : Result V CursorError) : Type 0 where
  pub accepted : IsOk result ↔ fits
  pub refused : IfErr result (λ e. e ≡ why)

-- A `Cursor` has the bits that are read or written, and the position: how many of them were passed.
pub record Cursor : Type 0 where
  pub bits : List Bool
  pub position : ℕ

-- `left_of cursor` is the bits that a cursor has not passed.
abbrev pub left_of : Cursor → List Bool
left_of cursor = drop cursor.position cursor.bits

module _ {T O : Type 0} {t : Store T} {o : Order O} where
  -- `reading reader` has the bits that a `BitReader` reads, and how many of them it has passed.
  abbrev pub reading : BitReader T O t o → Cursor
  reading reader = record { bits = (seen reader.view).bits; position = reader.position }

  -- `start_of reader` is the index in the first element, in bits, at which the bits that are read begin.
  abbrev pub start_of : BitReader T O t o → ℕ
  start_of reader = (seen reader.view).window.start

  -- `writing writer` has the bits of the elements of a `BitWriter`, and how many of them it has passed.
  abbrev pub writing : BitWriter T O t o → Cursor
  writing writer = record { bits = memory_bits t.BITS o.at (map t.value writer.elements.now); position = writer.position }

  -- `elements_of writer` is the elements that a `BitWriter` borrows, as they are now.
  abbrev pub elements_of : BitWriter T O t o → List T
  elements_of writer = writer.elements.now

  -- `lender_of writer` is the name of the borrow by which a `BitWriter` has its elements.
  abbrev pub lender_of : BitWriter T O t o → GName
  lender_of writer = writer.elements.ghost_name

  -- `limit_of writer` is the index, in bits, at which a `BitWriter` ends: it puts no bit there or behind.
  abbrev pub limit_of : BitWriter T O t o → ℕ
  limit_of writer = writer.end

  -- `KeepsBits old new` says that a `BitReader` reads the bits that it read before, from where they begin.
  pub record KeepsBits (old new : BitReader T O t o) : Type 0 where
    pub bits : (reading new).bits ≡ (reading old).bits
    pub start : start_of new ≡ start_of old

  -- `KeepsElements old new result` says what a `BitWriter` keeps: as many elements, by the same borrow, the same limit, which
  -- lies in their bits, and all elements where it refused.
  pub record KeepsElements {V : Type 0} (old new : BitWriter T O t o) (result : Result V CursorError) : Type 0 where
    pub kept : OnErr result (elements_of new ≡ elements_of old)
    pub len : length (elements_of new) ≡ length (elements_of old)
    pub name : lender_of new ≡ lender_of old
    pub limit : limit_of new ≡ limit_of old
    pub fits : limit_of old ≤ length (writing old).bits
