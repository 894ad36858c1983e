-- Command sets (PS3.7 section 6.3.1 and annex E): data sets of group 0000 alone, in Implicit VR
-- Little Endian.
use Rattle.std.specs.Prelude.{ℕ, Bool, not, ◌==◌, nat_lt, if◌then◌else◌, List, [], length, find}
use Rattle.std.specs.Prelude.{Option, Some, None, unwrap_or, Result, Ok, Err}
use Rattle.std.specs.List.{list_all}
use Rattle.std.specs.Int.{w16, from_le_bytes}
use Rattle.dq_vr.specs.declared.Tag.{Tag}
use Rattle.dq_vr.specs.declared.Vr.TheVariants.{UI}
use Rattle.dq_value.specs.Trimming.{trimmed_value}
use Rattle.dq_dataset.specs.declared.fault.ReadFault.{ReadFault}
use Rattle.dq_dataset.specs.declared.header.Syntax.TheVariants.{Implicit}
use Rattle.dq_dataset.specs.declared.data_set.Element.{Element}
use Rattle.dq_dataset.specs.declared.data_set.Value.{Value}
use Rattle.dq_dataset.specs.declared.data_set.Value.TheVariants.{Octets, Items}
use Rattle.dq_dataset.specs.Tree.{ElementList}
use Rattle.dq_dataset.specs.View.{elements_of, has_tag}
use Rattle.dq_dataset.specs.DataSetReader.{data_set_read}
use Rattle.dq_list.specs.Readers.{◌>>=◌, only_if}
use Rattle.dq_dimse.specs.declared.command.Command.{Command}
use Rattle.dq_dimse.specs.CommandElements.{command_group, command_field, command_data_set_type}
use Rattle.dq_dimse.specs.CommandElements.{message_id, message_id_being_responded_to, no_data_set}
use Rattle.dq_dimse.specs.CommandElements.{affected_sop_class_uid, requested_sop_class_uid}
use Rattle.dq_dimse.specs.CommandElements.{affected_sop_instance_uid, requested_sop_instance_uid}
use Rattle.dq_dimse.specs.CommandFields.{c_cancel, n_set, response_bit}

-- Only elements of group 0000 stand in a command set.
abbrev pub belongs : Element → Bool
belongs e = e.tag.group == command_group

-- a tag of group 0000
abbrev pub command_tag : ℕ → Tag
command_tag number = record { group = command_group; element = number }

-- the octets of a value; a sequence has none
abbrev pub octets_if_any : Value → Option (List ℕ)
octets_if_any (Octets octets) = Some octets
octets_if_any (Items items) = None

-- the value of the element of group 0000 with a number
abbrev pub value_of : ℕ → ElementList → Option (List ℕ)
value_of number set =
    find (has_tag (command_tag number)) (elements_of set) >>= λ e. octets_if_any e.value

-- a value of two octets
abbrev pub unsigned_short_at : ℕ → ElementList → Option ℕ
unsigned_short_at number set =
    value_of number set >>= λ octets. only_if (length octets == 2) (from_le_bytes w16 octets)

-- an identifier without its padding, empty where there is none
abbrev pub identifier_of : ℕ → ElementList → List ℕ
identifier_of number set = trimmed_value UI (unwrap_or (value_of number set) [])

-- Message ID, in a C-CANCEL the Message ID Being Responded To
abbrev pub id_number : ℕ → ℕ
id_number code = if code == c_cancel then message_id_being_responded_to else message_id

-- Affected SOP Class UID, in an N-SET the Requested one; likewise the instance
abbrev pub class_number : ℕ → ℕ
class_number code = if code == n_set then requested_sop_class_uid else affected_sop_class_uid

abbrev pub instance_number_element : ℕ → ℕ
instance_number_element code =
    if code == n_set then requested_sop_instance_uid else affected_sop_instance_uid

-- The command that the elements of a command set make.
unfoldable pub command_from : ElementList → Option Command
command_from set = do
  code ← unsigned_short_at command_field set
  data_set_type ← unsigned_short_at command_data_set_type set
  id ← unsigned_short_at (id_number code) set
  only_if (nat_lt code response_bit) (record {
    code = code;
    id = id;
    sop_class = identifier_of (class_number code) set;
    sop_instance = identifier_of (instance_number_element code) set;
    with_data = not (data_set_type == no_data_set);
    status = 0;
  })

-- the data set that was read, if one was
abbrev pub read_set : Result ElementList ReadFault → Option ElementList
read_set (Ok set) = Some set
read_set (Err fault) = None

-- the command that a command set spells
unfoldable pub command_of : List ℕ → Option Command
command_of octets = do
  set ← read_set (data_set_read Implicit octets)
  own ← only_if (list_all belongs (elements_of set)) set
  command_from own
