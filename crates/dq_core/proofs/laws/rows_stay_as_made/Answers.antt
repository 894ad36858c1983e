use Rattle.dq_core.specs.Soundness.{AreMade}
use Rattle.dq_core.proofs.isolation.Keeping.{history-kept, within-kept, run-kept}
use Rattle.dq_core.proofs.isolation.Stored.{none-made}
use Rattle.dq_core.proofs.laws.rows_stay_as_made.Goals as goal

pub returns-clause-at_first : goal.returns-clause-at_first
returns-clause-at_first c = none-made

pub returns-clause-history : goal.returns-clause-history
returns-clause-history c = λ institutions rows events brings made.
    (history-kept AreMade c.services_keep_rows_as_made.ensures c.own_records_are_edited.ensures.one institutions rows events brings made).good

pub returns-clause-within : goal.returns-clause-within
returns-clause-within c = λ institutions rows events answered operations brings made.
    within-kept AreMade c.services_keep_rows_as_made.ensures c.own_records_are_edited.ensures.one institutions rows events brings made answered operations

pub returns-clause-run : goal.returns-clause-run
returns-clause-run c = run-kept AreMade c.services_keep_rows_as_made.ensures c.own_records_are_edited.ensures.one
