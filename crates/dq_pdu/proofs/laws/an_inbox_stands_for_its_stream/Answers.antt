use Rattle.std.proofs.Common.{sym, ap, ◌∙◌}
use Rattle.dq_pdu.specs.Inboxes.{inbox_fault}
use Rattle.dq_pdu.proofs.InboxLaws.{not_spent, fault_held}
use Rattle.dq_pdu.proofs.laws.an_inbox_stands_for_its_stream.Goals as goal

pub returns : goal.returns
returns c = record {
  only = λ stream inbox other a b. a.holds ∙ sym b.holds;
  not_spent = λ stream a. not_spent stream a.holds;
  fault = λ stream inbox a. ap inbox_fault a.holds ∙ fault_held stream;
}
