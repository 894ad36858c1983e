use Rattle.dq_captures.proofs.WrittenLines.{OnErr-known}
use Rattle.dq_console.proofs.Visiting.{attends, interrupts, interrupts-front}
use Rattle.dq_console.proofs.ServiceProgress.{responded-as}
use Rattle.dq_console.proofs.console.Console.turn.Goals as goal

pub returns-in_err-attend-clause-cut : goal.returns-in_err-attend-clause-cut
returns-in_err-attend-clause-cut g c = OnErr-known c.from_residual.result
    (interrupts g.T.Tables.state _ c.let_in.ensures.lets (rw c.let_in.ensures.names at c.in_err-attend.ensures.cut))

pub returns-in_err-respond-clause-cut : goal.returns-in_err-respond-clause-cut
returns-in_err-respond-clause-cut g c = OnErr-known c.from_residual-in_err-respond.result
    (rw c.in_err-respond.ensures.untouched
    (interrupts-front g.T.Tables.state _ c.let_in.ensures.lets (rw c.let_in.ensures.names at c.in_ok-attend.ensures.went) c.in_err-respond.ensures.cut))

pub returns-clause-went : goal.returns-clause-went
returns-clause-went g c =
    let reread = rw c.let_in.ensures.front at c.in_ok-attend.ensures.front in
    rw (c.in_ok-respond.ensures.wires, c.in_ok-respond.ensures.clients)
    (attends g.T.Tables.state _ c.let_in.ensures.lets (rw c.let_in.ensures.names at c.in_ok-attend.ensures.went)
    (responded-as g.T.Tables.state _ _ _ (λ asked served. (c.attend.new.self.front, reread, served))
    (rw (c.in_ok-attend.ensures.names, c.let_in.ensures.names) at c.in_ok-respond.ensures.went)))
