use Rattle.std.proofs.Common.{sym, ◌∙◌}
use Rattle.std.proofs.lemmas.List.{nil_from_length}
use Rattle.dq_core.specs.Stepping.{MayLeaveAfter}
use Rattle.dq_core.proofs.TableCalls.{goes-then, on-err, part-left, left-then}
use Rattle.dq_core.proofs.Composing.{held-next, held-part, held-all}
use Rattle.dq_core.proofs.Telling.{told_then}
use Rattle.dq_core.proofs.service.Provider.respond_all.Goals as goal

pub returns-in_err-answered-clause-stops : goal.returns-in_err-answered-clause-stops
returns-in_err-answered-clause-stops g c = λ h sent stand. on-err c.from_residual.result
    (held-part (c.loop-message.invariant.3 (c.in_err-answered.ensures.goes.was_honest h) sent stand) c.in-Some.ensures.steps.0
    (MayLeaveAfter (g.T.Tables.state c.args.tables.now) (g.T.Tables.state c.respond.new.tables))
    (λ m on. part-left (MayLeaveAfter (g.T.Tables.state c.args.tables.now) (g.T.Tables.state c.respond.new.tables))
    (left-then (g.T.Tables.state c.respond.new.tables) c.loop-message.invariant.2 (c.in_err-answered.ensures.goes.was_honest h))
    (c.in_err-answered.ensures.stops h m on)))

pub loop-message-preserved : goal.loop-message-preserved
loop-message-preserved g c = (
  tt,
  tt,
  goes-then c.loop-message.invariant.2 c.in_ok-answered.ensures.goes,
  λ h sent stand. held-next (c.loop-message.invariant.3 (c.in_ok-answered.ensures.goes.was_honest h) sent stand) c.in-Some.ensures.steps.0
      c.own_records_are_edited.ensures.all (λ m on. c.in_ok-answered.ensures.does h m on),
  λ h. told_then (c.loop-message.invariant.4 (c.in_ok-answered.ensures.goes.was_honest h)) (c.in_ok-answered.ensures.told h),
  λ begun. c.in_ok-answered.ensures.begun (c.loop-message.invariant.5 begun),
)

pub returns-clause-does : goal.returns-clause-does
returns-clause-does g c = λ h sent stand. held-all (c.loop-message.invariant.3 h sent stand)
    (nil_from_length _ (sym c.loop-message.message-iterator.rest.ok.0 ∙ c.in-None.ensures.steps.0))
