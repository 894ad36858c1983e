-- Which octets are which command set (PS3.7 section 6.3.1): those that spell a data set of group
-- 0000 alone.
use Rattle.std.specs.Prelude.{◌≡◌, ◌<◌, ℕ, ◌-◌, ◌^◌, ◌==◌, if◌then◌else◌, IsTrue, not}
use Rattle.std.specs.Prelude.{List, length, take, Some}
use Rattle.std.specs.List.{list_all}
use Rattle.std.specs.Int.{w32, to_le_bytes}
use Rattle.dq_vr.specs.declared.Vr.TheVariants.{UI}
use Rattle.dq_value.specs.Trimming.{trimmed_value}
use Rattle.dq_dataset.specs.declared.header.Syntax.TheVariants.{Implicit}
use Rattle.dq_dataset.specs.Tree.{ElementList}
use Rattle.dq_dataset.specs.View.{elements_of}
use Rattle.dq_dataset.specs.Grammar.{IsSpelled}
use Rattle.dq_dimse.specs.declared.command.Command.{Command}
use Rattle.dq_dimse.specs.CommandElements.{command_field, command_data_set_type, status_element}
use Rattle.dq_dimse.specs.CommandElements.{command_group_length, message_id_being_responded_to}
use Rattle.dq_dimse.specs.CommandElements.{affected_sop_class_uid, affected_sop_instance_uid}
use Rattle.dq_dimse.specs.CommandElements.{no_data_set, with_data_set}
use Rattle.dq_dimse.specs.CommandFields.{response_bit}
use Rattle.dq_dimse.specs.Commands.{belongs, unsigned_short_at, identifier_of}
use Rattle.dq_dimse.specs.Commands.{id_number, class_number, instance_number_element}
use Rattle.dq_dimse.specs.Sending.{zero_padded, command_element}

-- The octets spell a data set of group 0000 alone. No group length is part of it, of any group.
pub record SpellsSet (octets : List ℕ) (set : ElementList) : Type 0 where
  pub spelled : IsSpelled Implicit octets set
  pub own : IsTrue (list_all belongs (elements_of set))

-- States what the elements of a request's command set say, field by field (PS3.7 annex E.1). Numbers have two octets:
-- below the bit of responses it is clear. Identifiers are bare of padding.
pub record SaysCommand (set : ElementList) (command : Command) : Type 0 where
  pub code : unsigned_short_at command_field set ≡ Some command.code
  pub is_request : command.code < response_bit
  pub id : unsigned_short_at (id_number command.code) set ≡ Some command.id
  pub data_set_type : ℕ
  pub type_is : unsigned_short_at command_data_set_type set ≡ Some data_set_type
  pub with_data : command.with_data ≡ not (data_set_type == no_data_set)
  pub sop_class : identifier_of (class_number command.code) set ≡ command.sop_class
  pub sop_instance : identifier_of (instance_number_element command.code) set ≡ command.sop_instance
  pub no_status : command.status ≡ 0

-- a command set, with the command that its elements say
pub record IsCommandSet (octets : List ℕ) (command : Command) : Type 0 where
  pub set : ElementList
  pub spells : SpellsSet octets set
  pub says : SaysCommand set command

-- what fits the fields of a command set
pub record HasFields (command : Command) : Type 0 where
  pub code : command.code < 2 ^ 16
  pub id : command.id < 2 ^ 16
  pub status : command.status < 2 ^ 16
  pub sop_class : length (zero_padded command.sop_class) < 0xffff_ffff
  pub sop_instance : length (zero_padded command.sop_instance) < 0xffff_ffff

-- A command set that says the response, field by field (PS3.7 annex E.1): its group length, which
-- counts the octets after it, stands first.
pub record SaysResponse (command : Command) (octets : List ℕ) : Type 0 where
  pub group_length :
      take 12 octets ≡ command_element command_group_length (to_le_bytes w32 (length octets - 12))
  pub set : ElementList
  pub spells : SpellsSet octets set
  pub sop_class : identifier_of affected_sop_class_uid set ≡ trimmed_value UI command.sop_class
  pub code : unsigned_short_at command_field set ≡ Some command.code
  pub id : unsigned_short_at message_id_being_responded_to set ≡ Some command.id
  pub data_set_type :
      unsigned_short_at command_data_set_type set
      ≡ Some (if command.with_data then with_data_set else no_data_set)
  pub status : unsigned_short_at status_element set ≡ Some command.status
  pub sop_instance :
      identifier_of affected_sop_instance_uid set ≡ trimmed_value UI command.sop_instance
