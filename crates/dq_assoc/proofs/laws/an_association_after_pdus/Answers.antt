use Rattle.dq_assoc.proofs.Streams.{after-inputs, after-nothing, after-fault, after-waits, after-opens, after-ends}
use Rattle.dq_assoc.proofs.laws.an_association_after_pdus.Goals as goal

pub returns : goal.returns
returns c = record {
  inputs = after-inputs;
  none = after-nothing;
  fault = after-fault;
  waits = after-waits;
  opens = after-opens;
  ends = after-ends;
}
