use Rattle.std.proofs.Common.{inr, subst}
use Rattle.dq_http.specs.RequestOutcomes.{IsRefused}
use Rattle.dq_http.proofs.http_state.HttpState.outcome_for_head.Goals as goal

pub returns-in-Refused : goal.returns-in-Refused
returns-in-Refused c came begun = (
  c.in-Refused.refusal,
  _,
  inr (c.args.head.now, begun, rw c.in-Refused.is at c.in_ok-refusal.ensures, c.in_ok-framing.ensures),
  c.in_ok-refused-in-Refused.ensures,
)

pub returns-in-Open : goal.returns-in-Open
returns-in-Open c came begun =
    c.awaiting.ensures c.args.self.now.guard came
    (begun, (c.in_ok-refusal.field-0, c.in_ok-refusal.ensures, λ refused. subst IsRefused c.in-Open.is refused))

pub returns : goal.returns
returns c came begun =
    c.awaiting-in-Opened.ensures c.args.self.now.guard came
    (begun, (c.in_ok-refusal.field-0, c.in_ok-refusal.ensures, λ refused. subst IsRefused c.in-Opened.is refused))
