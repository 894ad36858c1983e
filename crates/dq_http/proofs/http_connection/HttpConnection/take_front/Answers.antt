use Rattle.std.proofs.Common.{refl}
use Rattle.dq_http.proofs.http_connection.HttpConnection.take_front.Goals as goal

pub returns-in_ok-tell-in-Refuse : goal.returns-in_ok-tell-in-Refuse
returns-in_ok-tell-in-Refuse c = (
  c.in_ok-outcome_for.field-0,
  rw (← c.as_slice.ensures.value) c.in_ok-outcome_for.ensures,
  rw (c.in-Refuse.is, c.put.ensures) refl,
)
