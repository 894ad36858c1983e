use Rattle.sqlite.proofs.Callers.{memory_is_clean}
use Rattle.dq_sql.proofs.laws.tables_over_trees_in_memory_are_honest.Goals as goal

pub returns : goal.returns
returns c = memory_is_clean c.args._tables.now.conn
