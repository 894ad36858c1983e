use Rattle.std.proofs.Common.{arith, List, length, ap}
use Rattle.std.proofs.lemmas.Bool.{false≢true}
use Rattle.dq_core.specs.declared.event.Event.{Event}
use Rattle.dq_core.proofs.TableCalls.{on-err}
use Rattle.dq_core.proofs.Running.{Stepped, ran-opens, ran-next, ran-part, ran-left, ran-faulted}
use Rattle.dq_core.proofs.server.answer_all.Goals as goal

pub step-requires : goal.step-requires
step-requires g c = ran-opens c.loop-event.invariant.ran c.in-Some.ensures.steps.0 c.requires.formed

pub returns-in_err-reply-clause-ran : goal.returns-in_err-reply-clause-ran
returns-in_err-reply-clause-ran g c =
    ran-part c.loop-event.invariant.ran c.in-Some.ensures.steps.0 c.step.new.self.tables c.step.ensures.goes.was_honest c.in_err-reply.ensures.part

pub returns-in_err-reply-clause-crash : goal.returns-in_err-reply-clause-crash
returns-in_err-reply-clause-crash g c = λ rows stands honest.
    on-err _ (ran-left c.loop-event.invariant.ran c.in-Some.ensures.steps.0 c.step.new.self.tables c.step.ensures.goes.was_honest
    c.in_err-reply.ensures.part rows stands honest)

pub returns-in_err-reply-clause-faulted : goal.returns-in_err-reply-clause-faulted
returns-in_err-reply-clause-faulted g c = λ rows stands honest.
    on-err _ (ran-faulted c.loop-event.invariant.ran c.in-Some.ensures.steps.0 c.step.new.self.tables c.step.ensures.goes.was_honest
    (λ rows events s quiet. false≢true (c.in_err-reply.ensures.quiet rows events s quiet)) rows stands honest)

pub loop-event-preserved : goal.loop-event-preserved
loop-event-preserved g c =
    let stepped : Stepped g.T.Tables.state c.loop-event.server c.step.new.self c.in-Some.event c.in_ok-reply.reply =
    record {
      replied = c.in_ok-reply.ensures.reply;
      stands = c.in_ok-reply.ensures.stands;
      institutions = c.step.ensures.institutions;
      newest = c.in_ok-reply.ensures.newest;
      unspent = c.in_ok-reply.ensures.unspent;
      goes = c.in_ok-reply.ensures.goes;
    } in record {
      ran = ran-next c.loop-event.invariant.ran c.in-Some.ensures.steps.0 stepped c.in_ok-push.ensures.items;
      room = omega (
        arith,
        c.loop-event.invariant.room,
        ap (λ (es : List Event). length es) c.in-Some.ensures.steps.0,
        c.in_ok-push.ensures.len,
        c.in_ok-push.ensures.capacity,
      );
    }
