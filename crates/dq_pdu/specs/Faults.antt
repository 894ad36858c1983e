-- The numbers of what is wrong with a stream, and of why a piece was not taken.
use Rattle.std.specs.Prelude.{ℕ}
use Rattle.dq_pdu.specs.declared.fault.PduFault.{PduFault}
use Rattle.dq_pdu.specs.declared.fault.PduFault.TheVariants.{Unrecognized, TooLong, Malformed}
use Rattle.dq_pdu.specs.declared.fault.InboxError.{InboxError}
use Rattle.dq_pdu.specs.declared.fault.InboxError.TheVariants.{NoMemory, Spent}

abbrev pub pdu_fault_number : PduFault → ℕ
pdu_fault_number Unrecognized = 1
pdu_fault_number TooLong = 2
pdu_fault_number Malformed = 3

abbrev pub number_of_error : InboxError → ℕ
number_of_error NoMemory = 4
number_of_error Spent = 5
