-- How the work ends.
use Rattle.std.proofs.Common.{◌≡◌, ℕ, ◌⊎◌, ◌<◌, List, length, Option, inl, inr, ⊎_elim, subst, ap, arith}
use Rattle.packet.specs.Arguments.{AreAssignments, Named}
use Rattle.packet.specs.Packets.{Place, packet_fields}
use Rattle.packet.specs.Program.{Ends, GivesPacket, HasFault, PacketFault, PrintsAsked, PrintsFields, PrintsPacket, ReadFault}
use Rattle.packet.specs.Resolved.{ChangesFault}
use Rattle.packet.specs.declared.fault.Fault.{Fault}
use Rattle.packet.specs.declared.fault.Fault.TheVariants.{Memory}

-- a packet whose assignments are no changes
pub changes-fault : (list : List Named) (old new : Option (List ℕ)) (fault : Fault) (bytes : List ℕ) (places : List Place) → GivesPacket old new bytes → places ≡ packet_fields bytes
    → (fault ≡ Memory) ⊎ ChangesFault places list fault → PacketFault list old new fault
changes-fault list old new fault bytes places input same why =
    ⊎_elim (λ (memory : fault ≡ Memory). inl (inl memory))
    (λ (wrong : ChangesFault places list fault). inr (record { bytes = bytes; input = input; comes = subst (λ (p : List Place). ChangesFault p list fault) same wrong })) why

-- what is printed as the words ask
ends-as : {prints more : Type 0} (comes also : Fault → Type 0) (before after : Option (List ℕ)) (status : ℕ) → (prints → more) → ((fault : Fault) → comes fault → also fault)
    → Ends prints comes before after status → Ends more also before after status
ends-as comes also before after status shows faults ends = record {
  known = ends.known;
  printed = λ zero. shows (ends.printed zero);
  fault = λ some. let said = ends.fault some in record { fault = said.fault; came = faults said.fault said.came; status_is = said.status_is; printed = said.printed };
}

pub ends-fields : (words : List (List ℕ)) (list : List Named) (old new before after : Option (List ℕ)) (status : ℕ) → AreAssignments words list → length list ≡ 0
    → Ends (PrintsFields old new before after) (ReadFault old new) before after status → Ends (PrintsAsked words old new before after) (HasFault words old new) before after status
ends-fields words list old new before after status are none =
    ends-as (ReadFault old new) (HasFault words old new) before after status
    (λ shown. record { list = list; asked = are; fields = λ empty. shown; packet = λ some. absurd (omega arith) })
    (λ fault came. inr (inr (list, are, inl came)))

pub ends-packet : (words : List (List ℕ)) (list : List Named) (old new before after : Option (List ℕ)) (status : ℕ) → AreAssignments words list → 0 < length list
    → Ends (PrintsPacket list old new before after) (PacketFault list old new) before after status → Ends (PrintsAsked words old new before after) (HasFault words old new) before after status
ends-packet words list old new before after status are some =
    ends-as (PacketFault list old new) (HasFault words old new) before after status
    (λ shown. record { list = list; asked = are; fields = λ empty. absurd (omega (arith, ap (λ (l : List Named). length l) empty)); packet = λ more. shown })
    (λ fault came. inr (inr (list, are, came)))
