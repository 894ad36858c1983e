use Rattle.dq_core.proofs.isolation.Stored.{truly-told, history-told}
use Rattle.dq_core.proofs.laws.each_status_says_what_stands.Goals as goal

pub returns-clause-message : goal.returns-clause-message
returns-clause-message c = truly-told c.the_status_says_what_stands.ensures.whole c.the_status_says_what_stands.ensures.discarded

pub returns-clause-history : goal.returns-clause-history
returns-clause-history c = λ institutions rows events number i brings made.
    history-told c.the_status_says_what_stands.ensures.whole c.the_status_says_what_stands.ensures.discarded
    c.services_keep_rows_as_made.ensures c.own_records_are_edited.ensures.one institutions rows events number i brings made
