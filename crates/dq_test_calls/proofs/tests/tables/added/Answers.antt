use Rattle.dq_test_calls.proofs.Fresh.{fits_entry}
use Rattle.dq_test_calls.proofs.tests.tables.added.Goals as goal

pub returns : goal.returns
returns c = fits_entry c.in_ok-entry.field-0 c.in_ok-entry.ensures.kind c.in_ok-entry.ensures.own
