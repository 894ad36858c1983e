use Rattle.dq_assoc.proofs.InTurn.{TookSome}
use Rattle.dq_assoc.proofs.association.Association.take_all.Given as goal

abbrev pub invariant-loop-pdu : goal.invariant-loop-pdu
invariant-loop-pdu l = TookSome l.fn.self l.self l.messages.items l.fault l.fn.pdus.items l.yielded l.pdu-iterator.rest.items
