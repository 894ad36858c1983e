use Rattle.dq_core.proofs.isolation.WorkedExamples.{a_query_over_no_rows, stores, a_kept_study}
use Rattle.dq_core.proofs.laws.examples_are_answered_octet_for_octet.Goals as goal

pub returns-clause-nothing_found : goal.returns-clause-nothing_found
returns-clause-nothing_found c = a_query_over_no_rows.0

pub returns-clause-no_level : goal.returns-clause-no_level
returns-clause-no_level c = a_query_over_no_rows.1

pub returns-clause-no_data_set : goal.returns-clause-no_data_set
returns-clause-no_data_set c = stores.0

pub returns-clause-no_operation : goal.returns-clause-no_operation
returns-clause-no_operation c = stores.1

pub returns-clause-found : goal.returns-clause-found
returns-clause-found c = a_kept_study.0

pub returns-clause-another : goal.returns-clause-another
returns-clause-another c = a_kept_study.1
