use Rattle.std.proofs.Common.{true, inr}
use Rattle.dq_wires.proofs.Looking.{asks-so}
use Rattle.dq_wires.proofs.turns.connection_turn.pull.Goals as goal

pub returns-in_ok-reply-clause-waits : goal.returns-in_ok-reply-clause-waits
returns-in_ok-reply-clause-waits g c = inr (record {
  mid = c.args.server.now;
  reply = c.in_ok-reply.reply;
  is_open = asks-so _ _ true _ c.number.ensures c.if-pending.true c.pending.ensures.stands;
  goes = rw c.number-then-pending.ensures at c.in_ok-reply.ensures.stepped;
  kept = c.answer.ensures;
})
