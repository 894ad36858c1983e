use Rattle.std.proofs.Common.{◌++◌}
use Rattle.dq_pdu.specs.Stream.{pdus_in}
use Rattle.dq_assoc.proofs.Streams.{stream-adds, stream-further, stream-stops}
use Rattle.dq_assoc.proofs.laws.a_longer_stream_adds_inputs.Goals as goal

pub returns : goal.returns
returns c = record {
  adds = λ stream more.
      stream-adds (pdus_in (stream ++ more)) (pdus_in stream).fault (pdus_in stream).list (pdus_in stream).rest more
      (c.a_longer_stream_adds.ensures.exact stream more);
  further = λ stream more pdus h faultless after e. stream-further (pdus_in stream) (pdus_in (stream ++ more)) pdus h faultless after e;
  fault = λ stream more fault e.
      let stays = c.a_longer_stream_adds.ensures.fault stream more fault e in
      stream-stops (pdus_in stream) (pdus_in (stream ++ more)) fault e stays.0 stays.1;
}
