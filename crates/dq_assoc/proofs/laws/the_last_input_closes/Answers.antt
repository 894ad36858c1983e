use Rattle.std.proofs.Common.{map}
use Rattle.dq_assoc.specs.Roles.{role_of}
use Rattle.dq_pdu.specs.Stream.{pdus_in}
use Rattle.dq_assoc.proofs.Ends.{inputs-end}
use Rattle.dq_assoc.proofs.laws.the_last_input_closes.Goals as goal

pub returns : goal.returns
returns c = record {
  pdus = λ pdus fault. inputs-end (map role_of pdus) fault;
  stream = λ stream. inputs-end (map role_of (pdus_in stream).list) (pdus_in stream).fault;
}
