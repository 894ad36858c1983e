use Rattle.dq_sql.proofs.CopiedStore.{copied_of_one, copied_of_named, copied_of_others, copied_sound}
use Rattle.dq_sql.proofs.laws.copies_have_the_rows_of_those_named.Goals as goal

pub returns-clause-one : goal.returns-clause-one
returns-clause-one c = copied_of_one

pub returns-clause-named : goal.returns-clause-named
returns-clause-named c = copied_of_named

pub returns-clause-others : goal.returns-clause-others
returns-clause-others c = copied_of_others

pub returns-clause-sound : goal.returns-clause-sound
returns-clause-sound c = copied_sound
