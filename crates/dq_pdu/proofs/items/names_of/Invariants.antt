use Rattle.std.proofs.Common.{◌≡◌, ◌++◌, drop, map}
use Rattle.dq_pdu.specs.Octets.{bodies, without_uid_padding}
use Rattle.dq_pdu.proofs.items.names_of.Given as goal

abbrev pub invariant-loop-item : goal.invariant-loop-item
invariant-loop-item l = l.names.items ++ map without_uid_padding (bodies l.kind (drop l.item-index l.items)) ≡ map without_uid_padding (bodies l.kind l.items)
