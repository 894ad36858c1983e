use Rattle.std.proofs.Common.{inl}
use Rattle.dq_http.proofs.http_state.HttpState.outcome_for.Goals as goal

pub returns-in_ok-refused-in-Refused : goal.returns-in_ok-refused-in-Refused
returns-in_ok-refused-in-Refused c = (
  c.in-Refused.refusal,
  _,
  inl (c.in-Refused.ensures, (c.args.date, c.unread_framing-framing.ensures)),
  c.in_ok-refused-in-Refused.ensures,
)
