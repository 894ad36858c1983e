use Rattle.dq_assoc.proofs.Contexts.{contexts-accepted, ids-accepted, ids-distinct}
use Rattle.dq_assoc.proofs.laws.agreements_are_of_accepted_contexts.Goals as goal

pub returns : goal.returns
returns c = record {
  contexts = λ request. contexts-accepted request.contexts;
  ids = λ request. ids-accepted request.contexts;
  distinct = λ request e. ids-distinct request.contexts e;
}
