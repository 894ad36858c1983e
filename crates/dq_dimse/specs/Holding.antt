-- The form in which the code holds messages, and what that stands for. The data set of a C-STORE is sifted as it comes:
-- of its octets no more is held than what the kept attributes leave of it.
use Rattle.std.specs.Prelude.{◌≡◌, ◌≤◌, ◌⊎◌, ℕ, ◌+◌, Bool, true, false, ◌==◌, ◌&&◌, not, List, [], ◌∷◌, ◌++◌, length, map, find, Option, Some, None, Result, Ok, Err}
use Rattle.dq_pdu.specs.declared.pdu.Pdv.{Pdv}
use Rattle.dq_dataset.specs.declared.header.Syntax.{Syntax}
use Rattle.dq_dataset.specs.Sieve.{IsSifted}
use Rattle.dq_dataset.specs.Sieving.{SieveAfter}
use Rattle.dq_dimse.specs.declared.assembler.Accepted.{Accepted}
use Rattle.dq_dimse.specs.declared.assembler.PendingMessage.{PendingMessage}
use Rattle.dq_dimse.specs.declared.assembler.PartialMessage.{PartialMessage as HeldGathered}
use Rattle.dq_dimse.specs.declared.assembler.PartialMessage.TheVariants as held
use Rattle.dq_dimse.specs.declared.assembler.IncomingDataSet.{IncomingDataSet}
use Rattle.dq_dimse.specs.declared.assembler.IncomingDataSet.TheVariants as incoming
use Rattle.dq_dimse.specs.declared.command.Body.{Body}
use Rattle.dq_dimse.specs.declared.command.Body.TheVariants.{Octets, Sifted}
use Rattle.dq_dimse.specs.declared.command.Command.{Command}
use Rattle.dq_dimse.specs.declared.command.Message.{Message as HeldMessage}
use Rattle.dq_dimse.specs.declared.fault.DimseFault.{DimseFault}
use Rattle.dq_dimse.specs.declared.fault.DimseFault.TheVariants.{NoMemory}
use Rattle.dq_dimse.specs.Assembling.{PartialMessage, Nothing, CommandPart, DataPart, Spent, Gathering, stops_at, Messages, Assembly, new_assembly, assembly_from}
use Rattle.dq_vr.specs.StudyRoot.{kept_attributes}
use Rattle.dq_dimse.specs.CommandFields.{c_store}
use Rattle.dq_dimse.specs.Messages.{command_limit, other_limit, data_limit}
use Rattle.dq_dimse.specs.Received.{Message}

-- ---- accepted contexts

abbrev pub accepted_ids : List Accepted → List ℕ
accepted_ids accepted = map (λ (c : Accepted). c.id) accepted

-- the accepted context with an id
abbrev pub accepted_with : ℕ → List Accepted → Option Accepted
accepted_with id accepted = find (λ (c : Accepted). c.id == id) accepted

-- ---- messages

-- A body stands for the octets of a data set: it is these, or what the kept attributes leave of it.
abbrev pub BodyRefines : Syntax → Body → List ℕ → Type 0
BodyRefines syntax (Octets held) octets = held ≡ octets
BodyRefines syntax (Sifted answer) octets = IsSifted syntax kept_attributes octets answer

abbrev pub is_sifted : Body → Bool
is_sifted (Octets held) = false
is_sifted (Sifted answer) = true

-- the data sets that are sifted: those of a C-STORE (PS3.7 section 9.3.1)
abbrev pub is_stored : Command → Bool
is_stored command = command.code == c_store

-- A held message refines a message whose context has this transfer syntax: it stands for it.
pub record Refines (syntax : Syntax) (held : HeldMessage) (message : Message) : Type 0 where
  pub context : held.context ≡ message.context
  pub command : held.command ≡ message.command
  pub over : held.over ≡ message.over
  pub body : BodyRefines syntax held.body message.octets
  pub sifted : is_sifted held.body ≡ (is_stored message.command && not message.over)
  pub discarded : message.over ≡ true → message.octets ≡ []
  pub short : message.over ≡ false → length message.octets ≤ data_limit message.command

-- It stands for a message on one of the accepted contexts.
pub record RefinesOn (accepted : List Accepted) (held : HeldMessage) (message : Message) : Type 0
  where
    pub context : Accepted
    pub found : accepted_with message.context accepted ≡ Some context
    pub stands : Refines context.syntax held message

-- messages, one by one
abbrev pub AllRefine : List Accepted → List HeldMessage → List Message → Type 0
AllRefine accepted [] [] = Unit {0}
AllRefine accepted (held ∷ helds) (message ∷ messages) =
    RefinesOn accepted held message × AllRefine accepted helds messages
AllRefine accepted [] (message ∷ messages) = ⊥
AllRefine accepted (held ∷ helds) [] = ⊥

-- The message of what is held, where its octets are held. Where they are sifted it has none.
abbrev pub octets_held : Body → List ℕ
octets_held (Octets held) = held
octets_held (Sifted answer) = []

abbrev pub plain_message : HeldMessage → Message
plain_message held = record {
  context = held.context;
  command = held.command;
  octets = octets_held held.body;
  over = held.over;
}

-- ---- what is gathered

-- The part of a data set that came: its octets; those of a C-STORE in a sieve, and the number of those for which there
-- is room; or nothing is held of it, since it passed its limit.
abbrev pub IncomingRefines : Syntax → IncomingDataSet → Message → Type 0
IncomingRefines syntax (incoming.Octets octets) message =
    (is_stored message.command ≡ false) × (message.over ≡ false) × (octets ≡ message.octets)
    × (length octets ≤ data_limit message.command)
IncomingRefines syntax (incoming.Sifting sieve room) message =
    (is_stored message.command ≡ true) × (message.over ≡ false)
    × (room + length message.octets ≡ data_limit message.command)
    × SieveAfter syntax kept_attributes message.octets sieve
IncomingRefines syntax incoming.ExceededLimit message =
    (message.over ≡ true) × (message.octets ≡ [])

-- The held part stands for a message whose data set is still to come.
pub record PendingRefines (begun : PendingMessage) (message : Message) : Type 0 where
  pub context : begun.context.id ≡ message.context
  pub command : begun.command ≡ message.command
  pub data_set : IncomingRefines begun.context.syntax begun.data_set message

-- what an assembler gathered
abbrev pub HasGathered : List Accepted → HeldGathered → PartialMessage → Type 0
HasGathered accepted held.Nothing gathered = gathered ≡ Nothing
HasGathered accepted (held.CommandPart context octets) gathered =
    (accepted_with context.id accepted ≡ Some context) × (gathered ≡ CommandPart context.id octets)
HasGathered accepted (held.DataPart begun) gathered =
    (accepted_with begun.context.id accepted ≡ Some begun.context)
    × (message : Message) × (gathered ≡ DataPart message) × PendingRefines begun message
HasGathered accepted (held.Spent fault) gathered = gathered ≡ Spent fault

-- ---- an assembler

-- its accepted contexts, and what it gathered
pub record Holding : Type 0 where
  pub accepted : List Accepted
  pub gathered : HeldGathered

-- An assembler stands for one of the definitions.
pub record Assembles (holding : Holding) (assembly : Assembly) : Type 0 where
  pub ids : assembly.ids ≡ accepted_ids holding.accepted
  pub gathered : HasGathered holding.accepted holding.gathered assembly.gathered

-- the assembler, which has these accepted contexts, was given the PDVs
pub record WasGivenPdvs (accepted : List Accepted) (pdvs : List Pdv) (holding : Holding) : Type 0 where
  pub accepted_are : holding.accepted ≡ accepted
  pub stands : Assembles holding (assembly_from (new_assembly (accepted_ids accepted)) pdvs)

-- the fault that an assembler answers from now on, where it is spent
abbrev pub fault_held : HeldGathered → Option DimseFault
fault_held held.Nothing = None
fault_held (held.CommandPart context octets) = None
fault_held (held.DataPart begun) = None
fault_held (held.Spent fault) = Some fault

abbrev pub spent_with : Holding → Option DimseFault
spent_with holding = fault_held holding.gathered

-- ---- how much is held of a message to come

-- The octets that are held of a data set. Those of a C-STORE are in a sieve.
abbrev pub octets_of_incoming : IncomingDataSet → List ℕ
octets_of_incoming (incoming.Octets octets) = octets
octets_of_incoming (incoming.Sifting sieve room) = []
octets_of_incoming incoming.ExceededLimit = []

-- the fragments that are held: of a command set, or of a data set
abbrev pub octets_gathered : HeldGathered → List ℕ
octets_gathered held.Nothing = []
octets_gathered (held.CommandPart context octets) = octets
octets_gathered (held.DataPart begun) = octets_of_incoming begun.data_set
octets_gathered (held.Spent fault) = []

-- how many they may be
abbrev pub gathered_limit : HeldGathered → ℕ
gathered_limit held.Nothing = 0
gathered_limit (held.CommandPart context octets) = command_limit
gathered_limit (held.DataPart begun) = other_limit
gathered_limit (held.Spent fault) = 0

-- the sieve that a data set is in was fed so many octets at most
abbrev pub SiftsWithin : Syntax → IncomingDataSet → ℕ → Type 0
SiftsWithin syntax (incoming.Octets octets) limit = Unit {0}
SiftsWithin syntax (incoming.Sifting sieve room) limit =
    (octets : List ℕ) × SieveAfter syntax kept_attributes octets sieve × (length octets ≤ limit)
SiftsWithin syntax incoming.ExceededLimit limit = Unit {0}

-- ---- what taking a PDV answers

-- a message, or none
abbrev pub RefinesOne : List Accepted → Option HeldMessage → List Message → Type 0
RefinesOne accepted None messages = messages ≡ []
RefinesOne accepted (Some held) messages =
    (message : Message) × (messages ≡ message ∷ []) × RefinesOn accepted held message

-- The message that a PDV adds to those before, or the fault; or memory ran out.
abbrev pub AddsMessage : List Accepted → Result (Option HeldMessage) DimseFault → List Message → Messages
    → Type 0
AddsMessage accepted (Ok held) before after =
    (added : List Message) × RefinesOne accepted held added
    × (after ≡ record { list = before ++ added; fault = None })
AddsMessage accepted (Err fault) before after =
    (fault ≡ NoMemory) ⊎ (after ≡ record { list = before; fault = Some fault })

-- The effect of a PDV on what was gathered. This is for the prover.
abbrev pub MakesGathering : List Accepted → Result (Option HeldMessage × HeldGathered) DimseFault → Gathering
    → Type 0
MakesGathering accepted (Ok x) made =
    RefinesOne accepted x.0 made.list × HasGathered accepted x.1 made.gathered
MakesGathering accepted (Err fault) made = (fault ≡ NoMemory) ⊎ (made ≡ stops_at fault)
