use Rattle.dq_http.proofs.http_state.HttpState.given_as.Goals as goal

pub returns-in-Open : goal.returns-in-Open
returns-in-Open c guard judged = rw c.in-Open.is (c.given_for.ensures guard judged)

pub returns-in-Opened : goal.returns-in-Opened
returns-in-Opened c guard judged = rw c.in-Opened.is (c.given_for-in-Opened.ensures guard judged)
