-- The parts of a message that a service takes.
use Rattle.std.specs.Prelude.{ℕ, Bool, ◌||◌, nat_lt, length, Option, Some, None, Result, Ok, Err, if◌then◌else◌}
use Rattle.std.specs.Result.{result_ok}
use Rattle.dq_dataset.specs.declared.header.Syntax.{Syntax}
use Rattle.dq_dataset.specs.DataSetReader.{data_set_read}
use Rattle.dq_dataset.specs.Tree.{ElementList}
pub use Rattle.dq_dimse.specs.Limits.{other_limit}
use Rattle.dq_dimse.specs.Received.{Message}
use Rattle.dq_dimse.specs.Statuses.{out_of_resources, cannot_understand}

-- The octets of its data set are more than the limit, or were discarded as more than they may be.
abbrev pub is_over : ℕ → Message → Bool
is_over limit message = message.over || nat_lt limit (length message.octets)

abbrev pub unless_unread : Option ElementList → Result ElementList ℕ
unless_unread None = Err cannot_understand
unless_unread (Some identifier) = Ok identifier

-- the Identifier of a C-FIND request, or the status that refuses it: its octets are too many, or
-- they spell no data set (PS3.4 sections C.4.1.1.4 and K.4.1.1.4)
unfoldable pub identifier_in : Message → Syntax → Result ElementList ℕ
identifier_in message syntax =
    if is_over other_limit message then Err out_of_resources
    else unless_unread (result_ok (data_set_read syntax message.octets))
