use Rattle.dq_assoc.proofs.Contexts.{agreed-id, agreed-class, agreed-offered, agreed-explicit, accepted-offered, agreed-answer, refused-answer, ids-stay}
use Rattle.dq_assoc.proofs.laws.contexts_are_negotiated.Goals as goal

pub returns : goal.returns
returns c = record {
  id = agreed-id;
  class = agreed-class;
  offered = agreed-offered;
  explicit = agreed-explicit;
  accepted = accepted-offered;
  answer = agreed-answer;
  refused = refused-answer;
  answers = ids-stay;
}
