use Rattle.dq_core.specs.Shared.{turn}
use Rattle.dq_core.specs.Soundness.{HoldSound}
use Rattle.dq_core.proofs.isolation.Keeping.{served-kept, ordered-kept, turn-kept, stay-taken, history-kept, history-came, within-kept, run-kept}
use Rattle.dq_core.proofs.isolation.Soundness.{none-sound, octets-sound}
use Rattle.dq_core.proofs.laws.rows_stay_sound.Goals as goal

pub returns-clause-at_first : goal.returns-clause-at_first
returns-clause-at_first c = none-sound

pub returns-clause-of_octets : goal.returns-clause-of_octets
returns-clause-of_octets c = octets-sound c.spelling_law.ensures.spelled c.spelling_law.ensures.facts

pub returns-clause-message : goal.returns-clause-message
returns-clause-message c = λ name rows limits agreement message are sound.
    served-kept HoldSound c.services_keep_rows_sound.ensures name limits rows sound agreement message are

pub returns-clause-order : goal.returns-clause-order
returns-clause-order c = λ name rows limits order are sound.
    ordered-kept HoldSound c.services_keep_rows_sound.ensures name limits rows sound order are

pub returns-clause-event : goal.returns-clause-event
returns-clause-event c = λ institutions world event operations came brings sound.
    stay-taken HoldSound (turn institutions world event).operations world.rows (
    turn-kept HoldSound c.services_keep_rows_sound.ensures c.own_records_are_edited.ensures.one institutions world event came brings sound) operations

pub returns-clause-history : goal.returns-clause-history
returns-clause-history c = λ institutions rows events brings sound.
    (history-kept HoldSound c.services_keep_rows_sound.ensures c.own_records_are_edited.ensures.one institutions rows events brings sound).good

pub returns-clause-came : goal.returns-clause-came
returns-clause-came c = history-came

pub returns-clause-within : goal.returns-clause-within
returns-clause-within c = λ institutions rows events answered operations brings sound.
    within-kept HoldSound c.services_keep_rows_sound.ensures c.own_records_are_edited.ensures.one institutions rows events brings sound answered operations

pub returns-clause-run : goal.returns-clause-run
returns-clause-run c = run-kept HoldSound c.services_keep_rows_sound.ensures c.own_records_are_edited.ensures.one
