use Rattle.dq_core.proofs.isolation.Isolating.{lenses_from}
use Rattle.dq_core.proofs.isolation.Promise.{agreeing_fronts}
use Rattle.dq_core.proofs.laws.agreeing_histories_are_answered_alike.Goals as goal

pub returns-clause-prefix : goal.returns-clause-prefix
returns-clause-prefix c =
    agreeing_fronts c.a_longer_stream_adds_inputs.ensures.adds
    (lenses_from c.own_records_are_edited.ensures.one c.other_records_stay.ensures.one c.rows_stay_in_order.ensures.one)
