use Rattle.std.proofs.Common.{refl}
use Rattle.dq_http.proofs.http_state.HttpState.given_for.Goals as goal

pub returns-in_ok-refused-in-Refused : goal.returns-in_ok-refused-in-Refused
returns-in_ok-refused-in-Refused c guard judged =
    (c.in_ok-refusal.field-0, c.in_ok-refusal.ensures guard judged, rw c.in-Refused.is c.in_ok-refused-in-Refused.ensures)

pub returns-in_ok-unreadable-in-Unreadable : goal.returns-in_ok-unreadable-in-Unreadable
returns-in_ok-unreadable-in-Unreadable c guard judged =
    (c.in_ok-refusal.field-0, c.in_ok-refusal.ensures guard judged, rw c.in-Unreadable.is c.in_ok-unreadable-in-Unreadable.ensures)

pub returns-in_ok-document-in-Document : goal.returns-in_ok-document-in-Document
returns-in_ok-document-in-Document c guard judged =
    (c.in_ok-refusal.field-0, c.in_ok-refusal.ensures guard judged, rw c.in-Document.is c.in_ok-document-in-Document.ensures)

pub returns-in_ok-healthy-in-Health : goal.returns-in_ok-healthy-in-Health
returns-in_ok-healthy-in-Health c guard judged =
    (c.in_ok-refusal.field-0, c.in_ok-refusal.ensures guard judged, rw c.in-Health.is c.in_ok-healthy-in-Health.ensures)

pub returns-in_ok-permitted-in-Preflight : goal.returns-in_ok-permitted-in-Preflight
returns-in_ok-permitted-in-Preflight c guard judged =
    (c.in_ok-refusal.field-0, c.in_ok-refusal.ensures guard judged, rw c.in-Preflight.is c.in_ok-permitted-in-Preflight.ensures)

pub returns-in_ok-misspelled-in-Misspelled : goal.returns-in_ok-misspelled-in-Misspelled
returns-in_ok-misspelled-in-Misspelled c guard judged = (
  c.in_ok-refusal.field-0,
  c.in_ok-refusal.ensures guard judged,
  rw c.in-Misspelled.is (rw (← c.as_str.ensures.value) c.in_ok-misspelled-in-Misspelled.ensures),
)

pub returns-in-Question : goal.returns-in-Question
returns-in-Question c guard judged =
    (c.in-Question.question, rw c.in-Question.is at (c.in_ok-refusal.ensures guard judged), refl)
