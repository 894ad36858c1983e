-- How many octets are held of a message to come.
use Rattle.std.proofs.Common.{◌≡◌, ◌≤◌, ℕ, ◌+◌, ◌==◌, Bool, true, false, cond, ltb, List, [], ◌∷◌, ◌++◌, length, Option, Some, None, refl, sym, subst, arith}
use Rattle.std.proofs.lemmas.Bool.{false≢true, ltb-false}
use Rattle.dq_pdu.specs.declared.pdu.Pdv.{Pdv}
use Rattle.dq_pdu.specs.Octets.{is_number_among}
use Rattle.dq_dataset.specs.declared.header.Syntax.{Syntax}
use Rattle.dq_dimse.specs.declared.assembler.Accepted.{Accepted}
use Rattle.dq_dimse.specs.declared.assembler.PendingMessage.{PendingMessage}
use Rattle.dq_dimse.specs.declared.assembler.PartialMessage.{PartialMessage as HeldGathered}
use Rattle.dq_dimse.specs.declared.assembler.PartialMessage.TheVariants as held
use Rattle.dq_dimse.specs.declared.assembler.IncomingDataSet.{IncomingDataSet}
use Rattle.dq_dimse.specs.declared.assembler.IncomingDataSet.TheVariants as incoming
use Rattle.dq_dimse.specs.declared.command.Command.{Command}
use Rattle.dq_dimse.specs.declared.fault.DimseFault.TheVariants.{WrongContext, WrongKind, BadCommand}
use Rattle.dq_dimse.specs.Assembling.{PartialMessage, Nothing, CommandPart, DataPart, Spent, stops_at, gathers, completes, command_completed, command_gathered, after_command, with_fragment, begun_with, gather, gather_all, new_assembly, assembly_from}
use Rattle.dq_dimse.specs.CommandFields.{c_store}
use Rattle.dq_dimse.specs.Commands.{command_of}
use Rattle.dq_dimse.specs.Holding.{Holding, HasGathered, IncomingRefines, WasGivenPdvs, octets_of_incoming, octets_gathered, gathered_limit, SiftsWithin}
use Rattle.dq_dimse.specs.Messages.{store_limit, other_limit}
use Rattle.dq_dimse.specs.Received.{Message}

-- ---- a command set

abbrev pub IsShort : PartialMessage → Type 0
IsShort Nothing = Unit {0}
IsShort (CommandPart context octets) = length octets ≤ 16384
IsShort (DataPart message) = Unit {0}
IsShort (Spent fault) = Unit {0}

begun_short : (message : Message) (with_data : Bool) → IsShort (cond with_data (gathers (DataPart message)) (completes message)).gathered
begun_short message true = tt
begun_short message false = tt

completed_short : (context : ℕ) (command : Option Command) → IsShort (command_completed context command).gathered
completed_short context None = tt
completed_short context (Some command) = begun_short (begun_with context command) command.with_data

last_short : (context : ℕ) (octets : List ℕ) (last : Bool) → length octets ≤ 16384
    → IsShort (cond last (command_completed context (command_of octets)) (gathers (CommandPart context octets))).gathered
last_short context octets true le = completed_short context (command_of octets)
last_short context octets false le = le

limited_short : (context : ℕ) (octets : List ℕ) (last over : Bool) → ltb 16384 (length octets) ≡ over
    → IsShort (cond over (stops_at BadCommand) (cond last (command_completed context (command_of octets)) (gathers (CommandPart context octets)))).gathered
limited_short context octets last true e = tt
limited_short context octets last false e = last_short context octets last (ltb-false _ _ e)

command_short : (context : ℕ) (octets : List ℕ) (last : Bool) → IsShort (command_gathered context octets last).gathered
command_short context octets last = limited_short context octets last (ltb 16384 (length octets)) refl

kind_short : (context : ℕ) (octets : List ℕ) (last command : Bool)
    → IsShort (cond command (command_gathered context octets last) (stops_at WrongKind)).gathered
kind_short context octets last true = command_short context octets last
kind_short context octets last false = tt

begins_short : (context : ℕ) (before : List ℕ) (pdv : Pdv) (same : Bool)
    → IsShort (cond same (after_command context before pdv) (stops_at WrongContext)).gathered
begins_short context before pdv true = kind_short context (before ++ pdv.octets) pdv.last pdv.command
begins_short context before pdv false = tt

data_short : (message : Message) (same command last : Bool)
    → IsShort (cond same (cond command (stops_at WrongKind) (cond last (completes message) (gathers (DataPart message)))) (stops_at WrongContext)).gathered
data_short message true true last = tt
data_short message true false true = tt
data_short message true false false = tt
data_short message false command last = tt

gather_short : (ids : List ℕ) (before : PartialMessage) (pdv : Pdv) → IsShort (gather ids before pdv).gathered
gather_short ids Nothing pdv = begins_short pdv.context [] pdv (is_number_among pdv.context ids)
gather_short ids (CommandPart context octets) pdv = begins_short context octets pdv (pdv.context == context)
gather_short ids (DataPart message) pdv = data_short (with_fragment message pdv.octets) (pdv.context == message.context) pdv.command pdv.last
gather_short ids (Spent fault) pdv = tt

all_short : (ids : List ℕ) (before : PartialMessage) (pdvs : List Pdv) → IsShort before → IsShort (gather_all ids before pdvs).gathered
all_short ids before [] h = h
all_short ids before (pdv ∷ pdvs) h = all_short ids (gather ids before pdv).gathered pdvs (gather_short ids before pdv)

pub given_short : (ids : List ℕ) (pdvs : List Pdv) → IsShort (assembly_from (new_assembly ids) pdvs).gathered
unfolding assembly_from
given_short ids pdvs = all_short ids Nothing pdvs tt

-- ---- a data set

limit_by : (stored : Bool) → stored ≡ false → cond stored store_limit other_limit ≡ other_limit
limit_by true e = absurd (false≢true (sym e))
limit_by false e = refl

part_within : (syntax : Syntax) (held : IncomingDataSet) (m : Message) → IncomingRefines syntax held m → length (octets_of_incoming held) ≤ 1048576
part_within syntax (incoming.Octets octets) m h = subst (λ (n : ℕ). length octets ≤ n) (limit_by (m.command.code == c_store) h.0) h.3
part_within syntax (incoming.Sifting sieve room) m h = omega arith
part_within syntax incoming.ExceededLimit m h = omega arith

stored_limit : (stored : Bool) → cond stored store_limit other_limit ≤ store_limit
stored_limit true = omega arith
stored_limit false = omega arith

part_sifted : (syntax : Syntax) (held : IncomingDataSet) (m : Message) → IncomingRefines syntax held m → SiftsWithin syntax held store_limit
part_sifted syntax (incoming.Octets octets) m h = tt
part_sifted syntax (incoming.Sifting sieve room) m h = grind (arith, stored_limit)
part_sifted syntax incoming.ExceededLimit m h = tt

-- ---- what is gathered

gathered_within : (accepted : List Accepted) (h : HeldGathered) (g : PartialMessage) → IsShort g → HasGathered accepted h g
    → length (octets_gathered h) ≤ gathered_limit h
gathered_within accepted held.Nothing g short has = omega arith
gathered_within accepted (held.CommandPart context octets) g short has = subst IsShort has.1 short
gathered_within accepted (held.DataPart begun) g short has = part_within begun.context.syntax begun.data_set has.1 has.3.data_set
gathered_within accepted (held.Spent fault) g short has = omega arith

pub held_within : (accepted : List Accepted) (pdvs : List Pdv) (holding : Holding) → WasGivenPdvs accepted pdvs holding
    → length (octets_gathered holding.gathered) ≤ gathered_limit holding.gathered
held_within accepted pdvs holding given = grind (arith, gathered_within, given_short)

begun_sifted : (accepted : List Accepted) (begun : PendingMessage) (g : PartialMessage) → HasGathered accepted (held.DataPart begun) g
    → SiftsWithin begun.context.syntax begun.data_set store_limit
begun_sifted accepted begun g has = part_sifted begun.context.syntax begun.data_set has.1 has.3.data_set

pub sifted_within : (accepted : List Accepted) (pdvs : List Pdv) (holding : Holding) (begun : PendingMessage) → WasGivenPdvs accepted pdvs holding
    → holding.gathered ≡ held.DataPart begun → SiftsWithin begun.context.syntax begun.data_set store_limit
sifted_within accepted pdvs holding begun given e = grind (arith, begun_sifted)
