-- The messages of presentation data values (PS3.7 section 6.3.1, PS3.8 annex E): runs of PDVs of
-- one accepted context, command fragments to a last one whose join is a command set, and after
-- them, where the command has a data set, data fragments to a last one whose join is the data set.
use Rattle.std.specs.Prelude.{◌≡◌, ◌<◌, ◌≤◌, ◌⊎◌, ℕ, Bool, true, false, not, IsTrue, ◌==◌, nat_lt, []}
use Rattle.std.specs.Prelude.{if◌then◌else◌, List, ◌∷◌, ◌++◌, length, All, Option, Some, None}
use Rattle.std.specs.List.{flat_map}
use Rattle.dq_pdu.specs.declared.pdu.Pdv.{Pdv}
use Rattle.dq_pdu.specs.Octets.{is_number_among}
pub use Rattle.dq_dimse.specs.Limits.{command_limit, store_limit, other_limit}
use Rattle.dq_dimse.specs.declared.command.Command.{Command}
use Rattle.dq_dimse.specs.Received.{Message}
use Rattle.dq_dimse.specs.declared.fault.DimseFault.{DimseFault}
use Rattle.dq_dimse.specs.declared.fault.DimseFault.TheVariants.{WrongContext, WrongKind}
use Rattle.dq_dimse.specs.declared.fault.DimseFault.TheVariants.{BadCommand, NoMemory}
use Rattle.dq_dimse.specs.CommandFields.{c_store}
use Rattle.dq_dimse.specs.Commands.{command_of}

-- The most octets of a command's data set: the limit of a C-STORE, or that of any other command.
abbrev pub data_limit : Command → ℕ
data_limit command = if command.code == c_store then store_limit else other_limit

abbrev pub fragment : Pdv → List ℕ
fragment pdv = pdv.octets

-- the fragments, one after the other
abbrev pub fragment_octets : List Pdv → List ℕ
fragment_octets run = flat_map fragment run

-- command fragments, or data fragments, of one context, none of which is the last
pub record AreFragments (context : ℕ) (command : Bool) (run : List Pdv) : Type 0 where
  pub context_is : All (λ (pdv : Pdv). pdv.context ≡ context) run
  pub kind_is : All (λ (pdv : Pdv). pdv.command ≡ command) run
  pub unfinished : All (λ (pdv : Pdv). pdv.last ≡ false) run

-- such fragments, and a last one after them
pub record AreAllFragments (context : ℕ) (command : Bool) (run : List Pdv) : Type 0 where
  pub front : List Pdv
  pub final : Pdv
  pub parts : run ≡ front ++ final ∷ []
  pub fragments : AreFragments context command front
  pub context_is : final.context ≡ context
  pub kind_is : final.command ≡ command
  pub finished : final.last ≡ true

-- a run of PDVs of an accepted context that is a whole command set
pub record IsCommand (ids : List ℕ) (context : ℕ) (run : List Pdv) (command : Command)
    : Type 0 where
  pub accepted : IsTrue (is_number_among context ids)
  pub fragments : AreAllFragments context true run
  pub short : length (fragment_octets run) ≤ command_limit
  pub command_is : command_of (fragment_octets run) ≡ Some command

-- The octets of a message's data set, which are discarded where they pass the limit.
pub record HasOctets (message : Message) (octets : List ℕ) : Type 0 where
  pub over_is : message.over ≡ nat_lt (data_limit message.command) (length octets)
  pub octets_are : message.octets ≡ (if message.over then [] else octets)

-- a run of PDVs that is a message's whole data set
pub record IsDataSetRun (message : Message) (run : List Pdv) : Type 0 where
  pub fragments : AreAllFragments message.context false run
  pub octets_are : HasOctets message (fragment_octets run)

-- the data part of a message, by whether its command has a data set
abbrev pub IsDataPart : Bool → Message → List Pdv → Type 0
IsDataPart true message run = IsDataSetRun message run
IsDataPart false message run = (run ≡ []) × HasOctets message []

-- a run of PDVs that is a message: its command set, and its data set where it has one
pub record IsMessage (ids : List ℕ) (run : List Pdv) (message : Message) : Type 0 where
  pub commands : List Pdv
  pub data_part : List Pdv
  pub parts : run ≡ commands ++ data_part
  pub command_is : IsCommand ids message.context commands message.command
  pub data_is : IsDataPart message.command.with_data message data_part

-- the PDVs are the messages, one after the other, and then what is left
abbrev pub AreMessages : List ℕ → List Message → List Pdv → List Pdv → Type 0
AreMessages ids [] pdvs rest = pdvs ≡ rest
AreMessages ids (message ∷ messages) pdvs rest =
    (run : List Pdv) × (others : List Pdv) × (pdvs ≡ run ++ others)
    × IsMessage ids run message × AreMessages ids messages others rest

-- The beginning of a message to come: nothing yet or command fragments, so that a command fragment is due; or a command
-- set, and of the data set nothing yet or data fragments: one of these is due.
pub record AwaitsCommand (ids : List ℕ) (context : ℕ) (run : List Pdv) : Type 0 where
  pub accepted : IsTrue (is_number_among context ids)
  pub fragments : AreFragments context true run
  pub short : length (fragment_octets run) ≤ command_limit

pub record AwaitsData (ids : List ℕ) (context : ℕ) (command : Command) (run : List Pdv)
    : Type 0 where
  pub commands : List Pdv
  pub data_part : List Pdv
  pub parts : run ≡ commands ++ data_part
  pub command_is : IsCommand ids context commands command
  pub has_data : command.with_data ≡ true
  pub fragments : AreFragments context false data_part

-- a run of PDVs that a message may begin with, by whether a command fragment is due
abbrev pub BeginsMessage : List ℕ → Bool → List Pdv → Type 0
BeginsMessage ids true run = (run ≡ []) ⊎ ((context : ℕ) × AwaitsCommand ids context run)
BeginsMessage ids false run = (context : ℕ) × (command : Command) × AwaitsData ids context command run

-- the PDV is of the context of those before it, or of an accepted one where there are none
abbrev pub IsExpected : List ℕ → List Pdv → Pdv → Type 0
IsExpected ids [] pdv = IsTrue (is_number_among pdv.context ids)
IsExpected ids (first ∷ others) pdv = pdv.context ≡ first.context

-- the octets are too many, or the last ones are there and they are no command set
abbrev pub IsBad : List ℕ → Bool → Type 0
IsBad octets last =
    (command_limit < length octets)
    ⊎ ((length octets ≤ command_limit) × (last ≡ true) × (command_of octets ≡ None))

-- Why a PDV goes on with no message: the first of these. The front is what the message began with.
abbrev pub FitsNot : List ℕ → Bool → List Pdv → Pdv → DimseFault → Type 0
FitsNot ids command_due front pdv WrongContext = IsExpected ids front pdv → ⊥
FitsNot ids command_due front pdv WrongKind =
    IsExpected ids front pdv × (pdv.command ≡ not command_due)
FitsNot ids command_due front pdv BadCommand =
    IsExpected ids front pdv × (pdv.command ≡ true) × (command_due ≡ true)
    × IsBad (fragment_octets (front ++ pdv ∷ [])) pdv.last
FitsNot ids command_due front pdv NoMemory = ⊥

-- a PDV that goes on with no message, what the message began with, and whatever follows
pub record HasFault (ids : List ℕ) (rest : List Pdv) (fault : DimseFault) : Type 0 where
  pub front : List Pdv
  pub pdv : Pdv
  pub others : List Pdv
  pub parts : rest ≡ front ++ pdv ∷ others
  pub command_due : Bool
  pub begins : BeginsMessage ids command_due front
  pub fits_not : FitsNot ids command_due front pdv fault

-- what is left after the messages: what a message begins with, or a fault
abbrev pub AreLeft : List ℕ → List Pdv → Option DimseFault → Type 0
AreLeft ids rest None = (command_due : Bool) × BeginsMessage ids command_due rest
AreLeft ids rest (Some fault) = HasFault ids rest fault
