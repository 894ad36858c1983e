use Rattle.std.proofs.Common.{◌+◌, ◌≤◌, length}
use Rattle.std.specs.Vec.{vec_len, vec_capacity}
use Rattle.dq_core.proofs.Running.{RanSo}
use Rattle.dq_core.proofs.server.answer_all.Given as goal

abbrev pub invariant-loop-event : goal.invariant-loop-event
invariant-loop-event g l = record {
  ran : RanSo g.T.Tables.state l.fn.server l.server l.given.items l.fn.events.items l.yielded l.event-iterator.rest.items;
  room : vec_len l.given + length l.event-iterator.rest.items ≤ vec_capacity l.given;
}
