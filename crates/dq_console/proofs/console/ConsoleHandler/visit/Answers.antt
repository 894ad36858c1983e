use Rattle.dq_console.proofs.Visiting.{visited-gone}
use Rattle.dq_console.proofs.console.ConsoleHandler.visit.Goals as goal

pub returns-clause-went : goal.returns-clause-went
returns-clause-went g c =
    visited-gone g.T.Tables.state _ c.place-place.result c.shut.result c.if-branch.false c.in_ok-client_turn.ensures.went c.place-place.ensures c.shut.ensures.told
