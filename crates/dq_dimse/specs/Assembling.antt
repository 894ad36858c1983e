-- The messages of presentation data values, computed one PDV after the other. That they are the
-- messages, and the only ones, is said in Messages. What an assembler holds of them is said in
-- Holding.
use Rattle.std.specs.Prelude.{◌≡◌, ◌≤◌, ℕ, Bool, true, false, ◌||◌, ◌==◌, nat_lt, if◌then◌else◌, []}
use Rattle.std.specs.Prelude.{List, ◌∷◌, ◌++◌, length, Option, Some, None, IsTrue}
use Rattle.dq_pdu.specs.declared.pdu.Pdv.{Pdv}
use Rattle.dq_pdu.specs.Octets.{is_number_among}
use Rattle.dq_dimse.specs.declared.command.Command.{Command}
use Rattle.dq_dimse.specs.Received.{Message}
use Rattle.dq_dimse.specs.declared.fault.DimseFault.{DimseFault}
use Rattle.dq_dimse.specs.declared.fault.DimseFault.TheVariants.{WrongContext, WrongKind}
use Rattle.dq_dimse.specs.declared.fault.DimseFault.TheVariants.{BadCommand, NoMemory}
use Rattle.dq_dimse.specs.Commands.{command_of}
use Rattle.dq_dimse.specs.Messages.{command_limit, data_limit}

-- ---- one PDV

-- The part of a message that is gathered between two PDVs: nothing; the fragments of a command set so far, and their
-- context; a message whose command set is whole, with the fragments of its data set so far; or no message any more,
-- because of a fault.
pub data PartialMessage : Type 0 where
  Nothing : PartialMessage
  CommandPart : ℕ → List ℕ → PartialMessage
  DataPart : Message → PartialMessage
  Spent : DimseFault → PartialMessage

-- what a PDV does to what was gathered: the messages that it completes, and what is gathered then
pub record Gathering : Type 0 where
  pub list : List Message
  pub gathered : PartialMessage

abbrev pub gathers : PartialMessage → Gathering
gathers gathered = record { list = []; gathered = gathered }

abbrev pub stops_at : DimseFault → Gathering
stops_at fault = gathers (Spent fault)

abbrev pub completes : Message → Gathering
completes message = record { list = message ∷ []; gathered = Nothing }

-- a message whose command set is whole, and of whose data set nothing came yet
abbrev pub begun_with : ℕ → Command → Message
begun_with context command =
    record { context = context; command = command; octets = []; over = false }

abbrev pub command_completed : ℕ → Option Command → Gathering
command_completed context None = stops_at BadCommand
command_completed context (Some command) =
    let message = begun_with context command in
    if command.with_data then gathers (DataPart message) else completes message

-- the command fragments so far, the newest among them
abbrev pub command_gathered : ℕ → List ℕ → Bool → Gathering
command_gathered context octets last =
    if nat_lt command_limit (length octets) then stops_at BadCommand
    else (if last then command_completed context (command_of octets)
    else gathers (CommandPart context octets))

-- a PDV of the right context where a command fragment is due
abbrev pub after_command : ℕ → List ℕ → Pdv → Gathering
after_command context before pdv =
    if pdv.command then command_gathered context (before ++ pdv.octets) pdv.last
    else stops_at WrongKind

-- A message with one more data fragment. What passes the limit is discarded, with what came before.
abbrev pub with_fragment : Message → List ℕ → Message
with_fragment message fragment =
    let octets = message.octets ++ fragment in
    let over = message.over || nat_lt (data_limit message.command) (length octets) in
    record message { octets = if over then [] else octets; over = over }

-- a PDV of the right context where a data fragment is due
abbrev pub after_data : Message → Pdv → Gathering
after_data message pdv =
    if pdv.command then stops_at WrongKind
    else (if pdv.last then completes (with_fragment message pdv.octets)
    else gathers (DataPart (with_fragment message pdv.octets)))

-- The order of faults is context, kind, command set.
abbrev pub gather : List ℕ → PartialMessage → Pdv → Gathering
gather ids Nothing pdv =
    if is_number_among pdv.context ids then after_command pdv.context [] pdv else stops_at WrongContext
gather ids (CommandPart context octets) pdv =
    if pdv.context == context then after_command context octets pdv else stops_at WrongContext
gather ids (DataPart message) pdv =
    if pdv.context == message.context then after_data message pdv else stops_at WrongContext
gather ids (Spent fault) pdv = stops_at fault

-- ---- PDVs one after the other

abbrev pub after_others : List Message → Gathering → Gathering
after_others list later = record { list = list ++ later.list; gathered = later.gathered }

abbrev pub gather_all : List ℕ → PartialMessage → List Pdv → Gathering
gather_all ids gathered [] = gathers gathered
gather_all ids gathered (pdv ∷ pdvs) =
    let first = gather ids gathered pdv in
    after_others first.list (gather_all ids first.gathered pdvs)

abbrev pub gathering_fault : PartialMessage → Option DimseFault
gathering_fault Nothing = None
gathering_fault (CommandPart context octets) = None
gathering_fault (DataPart message) = None
gathering_fault (Spent fault) = Some fault

-- ---- what upper layers see

-- the messages of PDVs, and the fault after them
pub record Messages : Type 0 where
  pub list : List Message
  pub fault : Option DimseFault

-- an assembler for the accepted contexts, and what it gathered
pub record Assembly : Type 0 where
  pub ids : List ℕ
  pub gathered : PartialMessage

-- the fault that an assembler answers from now on, where it is spent
abbrev pub spent_by : Assembly → Option DimseFault
spent_by assembly = gathering_fault assembly.gathered

-- what PDVs add after those that an assembler was given
unfoldable pub messages_from : Assembly → List Pdv → Messages
messages_from assembly pdvs =
    let all = gather_all assembly.ids assembly.gathered pdvs in
    record { list = all.list; fault = gathering_fault all.gathered }

unfoldable pub assembly_from : Assembly → List Pdv → Assembly
assembly_from assembly pdvs = record {
  ids = assembly.ids;
  gathered = (gather_all assembly.ids assembly.gathered pdvs).gathered;
}

-- an assembler that was given no PDV
abbrev pub new_assembly : List ℕ → Assembly
new_assembly ids = record { ids = ids; gathered = Nothing }

-- the messages of a list of PDVs
abbrev pub messages : List ℕ → List Pdv → Messages
messages ids pdvs = messages_from (new_assembly ids) pdvs

-- the assembler, whose accepted contexts have the ids, was given the PDVs
pub record AssemblerAfter (ids : List ℕ) (pdvs : List Pdv) (assembly : Assembly) : Type 0 where
  pub stands : assembly ≡ assembly_from (new_assembly ids) pdvs

-- messages, and those that were added after them
abbrev pub followed_by : List Message → Messages → Messages
followed_by list later = record { list = list ++ later.list; fault = later.fault }

-- ---- memory

-- a command fragment, or a data fragment, that is kept or read
abbrev pub IsKeptCommand : List ℕ → Pdv → Type 0
IsKeptCommand before pdv =
    (pdv.command ≡ true) × (length (before ++ pdv.octets) ≤ command_limit)

abbrev pub IsKeptData : Message → Pdv → Type 0
IsKeptData message pdv =
    (pdv.command ≡ false) × (message.over ≡ false)
    × (length (message.octets ++ pdv.octets) ≤ data_limit message.command)

abbrev pub IsPdvKept : List ℕ → PartialMessage → Pdv → Type 0
IsPdvKept ids Nothing pdv = IsTrue (is_number_among pdv.context ids) × IsKeptCommand [] pdv
IsPdvKept ids (CommandPart context octets) pdv =
    (pdv.context ≡ context) × IsKeptCommand octets pdv
IsPdvKept ids (DataPart message) pdv = (pdv.context ≡ message.context) × IsKeptData message pdv
IsPdvKept ids (Spent fault) pdv = fault ≡ NoMemory

-- A PDV that memory may run out for: one whose octets are kept or read. One of another context, one
-- of the other kind, one that passes a limit and one that comes after it take no memory.
abbrev pub NeedsMemory : Assembly → Pdv → Type 0
NeedsMemory assembly pdv = IsPdvKept assembly.ids assembly.gathered pdv
