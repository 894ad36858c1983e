use Rattle.dq_worklist.proofs.Afterwards.{refused_schedules_nothing, refused_withdraws_nothing}
use Rattle.dq_worklist.proofs.laws.refused_orders_change_nothing.Goals as goal

pub returns-clause-scheduled : goal.returns-clause-scheduled
returns-clause-scheduled c = refused_schedules_nothing

pub returns-clause-withdrawn : goal.returns-clause-withdrawn
returns-clause-withdrawn c = refused_withdraws_nothing
