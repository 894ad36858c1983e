-- The keys that a data set holds.
use Rattle.std.specs.Prelude.{ℕ, Bool, ◌&&◌, nat_le, List, length, Option, Some, None, if◌then◌else◌}
use Rattle.dq_vr.specs.declared.Tag.{Tag}
use Rattle.dq_vr.specs.Tags.{scheduled_procedure_step_sequence, scheduled_procedure_step_id}
use Rattle.dq_value.specs.Parts.{sole}
use Rattle.dq_value.specs.Uid.{is_uid}
use Rattle.dq_dataset.specs.declared.data_set.Element.{Element}
use Rattle.dq_dataset.specs.declared.data_set.Value.TheVariants.{Octets, Items}
use Rattle.dq_dataset.specs.Tree.{ElementList}
use Rattle.dq_dataset.specs.Values.{element_at, sole_at}

abbrev pub value_passing : (List ℕ → Bool) → Option (List ℕ) → Option (List ℕ)
value_passing test None = None
value_passing test (Some value) = if test value then Some value else None

-- the value of an element that is exactly one UID (PS3.5 section 9.1)
unfoldable pub uid_at : Tag → ElementList → Option (List ℕ)
uid_at tag d = value_passing is_uid (sole_at tag d)

-- the only item of a sequence
unfoldable pub sole_item_of : Option Element → Option ElementList
sole_item_of None = None
sole_item_of (Some e) = elim e.value [ Octets octets ↦ None | Items items ↦ sole items ]

unfoldable pub sole_item_at : Tag → ElementList → Option ElementList
sole_item_at tag d = sole_item_of (element_at tag d)

-- an id has 1 to 16 octets (VR SH, PS3.5 section 6.2)
abbrev pub is_id : List ℕ → Bool
is_id value = nat_le 1 (length value) && nat_le (length value) 16

-- the only value of Scheduled Procedure Step ID (0040,0009), where it is an id
unfoldable pub id_of : ElementList → Option (List ℕ)
id_of item = value_passing is_id (sole_at scheduled_procedure_step_id item)

abbrev pub id_in : Option ElementList → Option (List ℕ)
id_in None = None
id_in (Some item) = id_of item

-- the id of the only scheduled procedure step of a worklist entry (PS3.4 section K.6.1.2.2)
unfoldable pub entry_id : ElementList → Option (List ℕ)
entry_id d = id_in (sole_item_at scheduled_procedure_step_sequence d)
