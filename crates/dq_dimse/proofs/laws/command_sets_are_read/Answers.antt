use Rattle.dq_dimse.proofs.CommandSets.{is_command_set, command_set_read}
use Rattle.dq_dimse.proofs.laws.command_sets_are_read.Goals as goal

pub returns-clause-are : goal.returns-clause-are
returns-clause-are c = is_command_set c.spelling_law.ensures.spelled

pub returns-clause-only : goal.returns-clause-only
returns-clause-only c = command_set_read c.spelling_law.ensures.read
