-- The elements of command sets by their numbers in group 0000 (PS3.7 annex E.1).
use Rattle.std.specs.Prelude.{ℕ}

abbrev pub command_group : ℕ
command_group = 0x0000

abbrev pub command_group_length : ℕ
command_group_length = 0x0000

abbrev pub affected_sop_class_uid : ℕ
affected_sop_class_uid = 0x0002

abbrev pub requested_sop_class_uid : ℕ
requested_sop_class_uid = 0x0003

abbrev pub command_field : ℕ
command_field = 0x0100

abbrev pub message_id : ℕ
message_id = 0x0110

abbrev pub message_id_being_responded_to : ℕ
message_id_being_responded_to = 0x0120

abbrev pub command_data_set_type : ℕ
command_data_set_type = 0x0800

abbrev pub status_element : ℕ
status_element = 0x0900

abbrev pub affected_sop_instance_uid : ℕ
affected_sop_instance_uid = 0x1000

abbrev pub requested_sop_instance_uid : ℕ
requested_sop_instance_uid = 0x1001

-- Command Data Set Type (0000,0800): the value of a message without a data set, and the one that is
-- sent with a data set, for which any other value stands (PS3.7 annex E.1)
abbrev pub no_data_set : ℕ
no_data_set = 0x0101

abbrev pub with_data_set : ℕ
with_data_set = 0x0001
