use Rattle.dq_core.proofs.isolation.Isolating.{lenses_from}
use Rattle.dq_core.proofs.isolation.Numberless.{numberless_replies, numberless_records, numberless_runs}
use Rattle.dq_core.proofs.laws.isolation_by_any_number.Goals as goal

pub returns-clause-replies : goal.returns-clause-replies
returns-clause-replies c =
    numberless_replies c.a_longer_stream_adds_inputs.ensures.adds
    (lenses_from c.own_records_are_edited.ensures.one c.other_records_stay.ensures.one c.rows_stay_in_order.ensures.one)

pub returns-clause-records : goal.returns-clause-records
returns-clause-records c =
    numberless_records c.a_longer_stream_adds_inputs.ensures.adds
    (lenses_from c.own_records_are_edited.ensures.one c.other_records_stay.ensures.one c.rows_stay_in_order.ensures.one)

pub returns-clause-runs : goal.returns-clause-runs
returns-clause-runs c =
    λ institutions others rows other_rows events other_events i j anew other_anew.
    numberless_runs c.a_longer_stream_adds_inputs.ensures.adds
    (lenses_from c.own_records_are_edited.ensures.one c.other_records_stay.ensures.one c.rows_stay_in_order.ensures.one)
    institutions others rows other_rows events other_events i j anew other_anew
