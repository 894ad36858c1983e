use Rattle.dq_core.proofs.isolation.Isolating.{lenses_from}
use Rattle.dq_core.proofs.isolation.Faulted.{own_run, strange_run, agreeing_runs}
use Rattle.dq_core.proofs.laws.runs_are_isolated.Goals as goal

pub returns-clause-own : goal.returns-clause-own
returns-clause-own c =
    own_run c.a_longer_stream_adds_inputs.ensures.adds
    (lenses_from c.own_records_are_edited.ensures.one c.other_records_stay.ensures.one c.rows_stay_in_order.ensures.one)

pub returns-clause-strangers : goal.returns-clause-strangers
returns-clause-strangers c = strange_run c.a_longer_stream_adds_inputs.ensures.adds

pub returns-clause-agree : goal.returns-clause-agree
returns-clause-agree c =
    agreeing_runs c.a_longer_stream_adds_inputs.ensures.adds
    (lenses_from c.own_records_are_edited.ensures.one c.other_records_stay.ensures.one c.rows_stay_in_order.ensures.one)
