-- The lent elements, as the definitions see them.
use Rattle.std.specs.Prelude.{Result, Ok, Err}
use Rattle.dq_dataset.specs.declared.fault.ReadFault.{ReadFault}
use Rattle.dq_dataset.specs.declared.lending.Lent.{Lent}
use Rattle.dq_dataset.specs.Lending.{Spelled}

abbrev pub lent_view : Result Lent ReadFault → Result Spelled ReadFault
lent_view (Ok e) = Ok (record { tag = e.tag; vr = e.vr; syntax = e.syntax; octets = e.octets.now })
lent_view (Err fault) = Err fault
