use Rattle.dq_core.proofs.isolation.Isolating.{lenses_from}
use Rattle.dq_core.proofs.isolation.Faulted.{own_run, left_run, left_begins}
use Rattle.dq_core.proofs.laws.what_a_crash_leaves.Goals as goal

pub returns-clause-run : goal.returns-clause-run
returns-clause-run c = left_run

pub returns-clause-own : goal.returns-clause-own
returns-clause-own c = λ institutions rows events given kept left run is.
    own_run c.a_longer_stream_adds_inputs.ensures.adds
    (lenses_from c.own_records_are_edited.ensures.one c.other_records_stay.ensures.one c.rows_stay_in_order.ensures.one)
    institutions rows events given left (left_run institutions rows events given kept left run is)

pub returns-clause-again : goal.returns-clause-again
returns-clause-again c =
    left_begins c.a_longer_stream_adds_inputs.ensures.adds
    (lenses_from c.own_records_are_edited.ensures.one c.other_records_stay.ensures.one c.rows_stay_in_order.ensures.one)
