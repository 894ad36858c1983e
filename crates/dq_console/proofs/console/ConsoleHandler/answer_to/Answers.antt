use Rattle.dq_console.proofs.Outcomes.{if_error}
use Rattle.dq_console.proofs.Rereading.{reread_one}
use Rattle.dq_console.proofs.ServiceProgress.{unanswered-after}
use Rattle.dq_console.proofs.console.ConsoleHandler.answer_to.Goals as goal

pub returns-in_err-response_text-in-Asked-clause-cut :
    goal.returns-in_err-response_text-in-Asked-clause-cut
returns-in_err-response_text-in-Asked-clause-cut g c =
    if_error _ c.from_residual-in_err-response_text-in-Asked.result _ c.from_residual-in_err-response_text-in-Asked.ensures.1
    (rw c.in-Asked.is (unanswered-after g.T.Tables.state _ _ _ _ _ _ c.in_ok-response-in-Asked.ensures.answered))

pub returns-in_ok-keys_text-in-Keys-clause-front : goal.returns-in_ok-keys_text-in-Keys-clause-front
returns-in_ok-keys_text-in-Keys-clause-front g c =
    reread_one g.F.Asks.rereads _ _ c.read_keys.result c.read_keys.ensures.rereads

pub returns-in_err-keys_text-in-Keys-clause-front : goal.returns-in_err-keys_text-in-Keys-clause-front
returns-in_err-keys_text-in-Keys-clause-front g c =
    reread_one g.F.Asks.rereads _ _ c.read_keys.result c.read_keys.ensures.rereads
