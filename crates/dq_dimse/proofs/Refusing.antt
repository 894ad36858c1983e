-- A request whose Identifier is refused does not succeed.
use Rattle.std.proofs.Common.{◌≡◌, ◌≢◌, ℕ, Bool, true, false, Option, Some, None, Err, arith, if◌then◌else◌}
use Rattle.std.specs.Result.{result_ok}
use Rattle.dq_dataset.specs.declared.header.Syntax.{Syntax}
use Rattle.dq_dataset.specs.DataSetReader.{data_set_read}
use Rattle.dq_dataset.specs.Tree.{ElementList}
use Rattle.dq_dimse.specs.Receiving.{is_over, other_limit, unless_unread, identifier_in}
use Rattle.dq_dimse.specs.Statuses.{success, out_of_resources, cannot_understand}
use Rattle.dq_dimse.specs.Received.{Message}

refused_by : (over : Bool) (read : Option ElementList) (status : ℕ) → (if over then Err out_of_resources else unless_unread read) ≡ Err status
    → status ≢ success
refused_by true read status e is = (let same : out_of_resources ≡ status = cc in absurd (omega (arith, same, is)))
refused_by false None status e is = (let same : cannot_understand ≡ status = cc in absurd (omega (arith, same, is)))
refused_by false (Some identifier) status e is = absurd (cc)

pub identifier_refused : (message : Message) (syntax : Syntax) (status : ℕ) → identifier_in message syntax ≡ Err status → status ≢ success
unfolding identifier_in
identifier_refused message syntax status e =
    refused_by (is_over other_limit message) (result_ok (data_set_read syntax message.octets)) status e
