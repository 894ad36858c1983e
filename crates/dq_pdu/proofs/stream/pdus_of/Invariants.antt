use Rattle.std.proofs.Common.{◌≡◌, ◌≤◌, ◌-◌, length, drop}
use Rattle.dq_pdu.specs.Stream.{pdus_in, with_list}
use Rattle.dq_pdu.proofs.stream.pdus_of.Given as goal

abbrev pub invariant-pdus : goal.invariant-pdus
invariant-pdus l = (with_list l.pdus.items (pdus_in l.rest) ≡ pdus_in l.octets) × (length l.rest ≤ length l.octets) × (l.rest ≡ drop
    (length l.octets - length l.rest) l.octets)

abbrev pub decreases-pdus : goal.decreases-pdus
decreases-pdus l = length l.rest
