use Rattle.std.proofs.Common.{sym, subst, ◌<◌, ◌+◌, length}
use Rattle.dq_pdu.specs.Inboxes.{inbox_octets}
use Rattle.dq_pdu.proofs.InboxLaws.{held_is_short, rest_is_short}
use Rattle.dq_pdu.proofs.laws.a_rest_is_less_than_a_pdu.Goals as goal

pub returns : goal.returns
returns c = record {
  rest = rest_is_short;
  held = λ stream inbox a. subst (λ h. length (inbox_octets h) < 6 + 65536) (sym a.holds) (held_is_short stream);
}
