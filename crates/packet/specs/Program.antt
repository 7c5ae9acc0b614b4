-- What the program does: words and an input in, a status and a text out.
use Rattle.std.specs.Prelude.{◌≡◌, ℕ, ◌<◌, ◌≤◌, ◌⊎◌, List, [], length, Option}
use Rattle.std.specs.Io.KnownBytes.{Appends, Consumes, IsAtEnd}
use Rattle.packet.specs.Arguments.{AreAssignments, Named}
use Rattle.packet.specs.Changes.{SetsFields}
use Rattle.packet.specs.Digits.{IsPacketText, TextFault, packet_text}
use Rattle.packet.specs.Faults.{fault_text, status_of}
use Rattle.packet.specs.Packets.{HeaderFault, IsHeader, header_windows, packet_fields, packet_windows}
use Rattle.packet.specs.Resolved.{AreChanges, ChangesFault}
use Rattle.packet.specs.Texts.{fields_text, line_of}
use Rattle.packet.specs.declared.changes.Change.{Change}
use Rattle.packet.specs.declared.fault.Fault.{Fault}
use Rattle.packet.specs.declared.fault.Fault.TheVariants.{Arguments, Input, Memory}
use Rattle.packet.specs.declared.program.Packet.{Packet}

-- the input, which is read from `old` on to `new`, was read to its end, and is this text
pub record IsText (old new : Option (List ℕ)) (text : List ℕ) : Type 0 where
  pub read : Consumes old new text
  pub end : IsAtEnd new

-- and it is a text of this packet's digits
pub record GivesPacket (old new : Option (List ℕ)) (bytes : List ℕ) : Type 0 where
  pub text : List ℕ
  pub input : IsText old new text
  pub packet : IsPacketText text bytes

-- when no packet is made: that a reader fails or memory is refused, no definition can tell
pub record HasTextFault (old new : Option (List ℕ)) (fault : Fault) : Type 0 where
  pub text : List ℕ
  pub input : IsText old new text
  pub comes : TextFault text fault

pub record HasHeaderFault (old new : Option (List ℕ)) (fault : Fault) : Type 0 where
  pub bytes : List ℕ
  pub input : GivesPacket old new bytes
  pub comes : HeaderFault bytes fault

pub record HasChangesFault (list : List Named) (old new : Option (List ℕ)) (fault : Fault) : Type 0 where
  pub bytes : List ℕ
  pub input : GivesPacket old new bytes
  pub comes : ChangesFault (packet_fields bytes) list fault

abbrev pub ReadFault : Option (List ℕ) → Option (List ℕ) → Fault → Type 0
ReadFault old new fault = (fault ≡ Memory) ⊎ ((fault ≡ Input) ⊎ (HasTextFault old new fault ⊎ HasHeaderFault old new fault))

abbrev pub PacketFault : List Named → Option (List ℕ) → Option (List ℕ) → Fault → Type 0
PacketFault list old new fault = ReadFault old new fault ⊎ HasChangesFault list old new fault

module _ {A : Type 0} where
  -- the packet of the input, and its headers
  pub record IsRead (old new : Option (List ℕ)) (packet : Packet A) : Type 0 where
    pub input : GivesPacket old new packet.bytes.items
    pub header : IsHeader packet.bytes.items packet.header

-- the packet of the input with the fields that are assigned
pub record IsChanged (list : List Named) (old new : Option (List ℕ)) (made : List ℕ) : Type 0 where
  pub bytes : List ℕ
  pub input : GivesPacket old new bytes
  pub changes : List Change
  pub changes_are : AreChanges (packet_fields bytes) list changes
  pub set : SetsFields (packet_windows bytes) (header_windows bytes) changes bytes made

-- ---- the whole

-- a packet was read, and its fields printed
pub record PrintsFields (old new before after : Option (List ℕ)) : Type 0 where
  pub bytes : List ℕ
  pub input : GivesPacket old new bytes
  pub printed : Appends before after (fields_text bytes)

-- a packet was read, the assigned fields were set, and its digits printed
pub record PrintsPacket (list : List Named) (old new before after : Option (List ℕ)) : Type 0 where
  pub made : List ℕ
  pub changed : IsChanged list old new made
  pub printed : Appends before after (packet_text made)

-- nothing was printed but the line of a fault that comes, and the status is the fault's
pub record PrintsFault (comes : Fault → Type 0) (before after : Option (List ℕ)) (status : ℕ) : Type 0 where
  pub fault : Fault
  pub came : comes fault
  pub status_is : status ≡ status_of fault
  pub printed : Appends before after (line_of (fault_text fault))

-- with status 0 it was printed, with 2 and 3 a fault that comes, and with 1 the output failed
pub record Ends (prints : Type 0) (comes : Fault → Type 0) (before after : Option (List ℕ)) (status : ℕ) : Type 0 where
  pub known : status ≤ 3
  pub printed : status ≡ 0 → prints
  pub fault : 2 ≤ status → PrintsFault comes before after status

-- the same of the words: they ask for no change, or for the assignments
pub record PrintsAsked (words : List (List ℕ)) (old new before after : Option (List ℕ)) : Type 0 where
  pub list : List Named
  pub asked : AreAssignments words list
  pub fields : list ≡ [] → PrintsFields old new before after
  pub packet : 0 < length list → PrintsPacket list old new before after

-- the words are no assignments; or they are, and no packet is made; or memory is refused
abbrev pub HasFault : List (List ℕ) → Option (List ℕ) → Option (List ℕ) → Fault → Type 0
HasFault words old new fault =
    (fault ≡ Memory) ⊎ (((fault ≡ Arguments) × ((list : List Named) → AreAssignments words list → ⊥))
    ⊎ ((list : List Named) × AreAssignments words list × PacketFault list old new fault))
