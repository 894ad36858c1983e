use Rattle.dq_core.proofs.isolation.Promise.{own_front}
use Rattle.dq_core.proofs.isolation.Renumbering.{alone_replies_anew}
use Rattle.dq_core.proofs.laws.institutions_are_answered_by_records.Goals as goal

pub returns-clause-prefix : goal.returns-clause-prefix
returns-clause-prefix c = own_front

pub returns-clause-numbers : goal.returns-clause-numbers
returns-clause-numbers c = λ limits records events another keeps. alone_replies_anew another keeps limits records events
